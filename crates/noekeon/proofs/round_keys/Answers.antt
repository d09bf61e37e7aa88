-- `round_keys`: what has room of the key, and zeros.
use mathlib.Core.Path.{◌≡◌, ap, ◌∙◌}
use mathlib.Core.List.{List, ◌++◌}
use Prim.Native.Nat.{ℕ, ◌≤◌, ◌<◌}
use native.Mathlib.Omega.{arith}
use lib.ListN.{length, take, drop, replicate}
use Rattle.std.proofs.lemmas.List.{drop-replicate}
use Rattle.noekeon.proofs.Padded.{padded}
use Rattle.noekeon.proofs.round_keys.Goals as goal

pub returns : goal.returns
returns c = let key = c.args.key.now in
    let n = c.min-n.result in
    let room : n ≤ 288 = omega arith in
    let has : n ≤ length key = omega arith in
    let whole : n < 288 → n ≡ length key = λ h. omega arith in
    ap (λ (l : List ℕ). l ++ drop n (replicate 288 0)) c.copy_from_slice.ensures.after
    ∙ ap (λ (l : List ℕ). take n key ++ l) (drop-replicate n 288 0)
    ∙ padded 288 key n room has whole
