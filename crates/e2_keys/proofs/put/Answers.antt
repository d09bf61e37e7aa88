-- `put`: the second word 128 places behind the first.
use mathlib.Core.List.{List, [], ◌∷◌}
use mathlib.Core.Path.{◌≡◌, ap, ◌∙◌}
use Prim.Native.Nat.{ℕ, ◌+◌}
use native.Mathlib.Omega.{arith}
use Rattle.laws.specs.Bytes.{bytes_of}
use Rattle.e2_keys.specs.code.Layout.{apart}
use Rattle.e2_keys.proofs.put.Goals as goal

pub returns : goal.returns
returns c = let a = c.args in
    let e : a.at + 128 ≡ a.at + 32 + 32 + 32 + 32 = omega arith in
    c.put_word-2.ensures
    ∙ ap (λ (l : List ℕ). apart l (a.at + 128) (bytes_of (a.x.b ∷ []))) c.put_word.ensures
    ∙ ap (λ (n : ℕ). apart (apart a.keys.now a.at (bytes_of (a.x.a ∷ []))) n (bytes_of (a.x.b ∷ []))) e
