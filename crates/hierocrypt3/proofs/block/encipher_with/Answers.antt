use mathlib.Core.Path.{◌≡◌, ap, ◌∙◌}
use Prim.Native.Nat.{ℕ, ◌+◌, ◌-◌, ◌/◌}
use native.Mathlib.Omega.{arith}
use Rattle.laws.specs.Places.{quarters, joined}
use Rattle.hierocrypt3.specs.Block.{T, round_key, encryption, encipher}
use Rattle.hierocrypt3.proofs.block.encipher_with.Goals as goal

pub returns : goal.returns
unfolding encipher
returns c = let args = c.args in
    let k = round_key args.keys.now in
    let len = args.length.bytes in
    let e : len / 8 + 3 ≡ T len - 1 = omega arith in
    c.bytes.ensures
    ∙ ap (joined 0 4) (c.encryption.ensures ∙ ap (encryption (len / 8 + 3) k) c.columns.ensures ∙ ap
    (λ (n : ℕ). encryption n k (quarters 0 4 args.block)) e)
