use mathlib.Core.Path.{◌≡◌, refl}
use Prim.Native.Nat.{ℕ, zero, suc}
use lib.Bits.{bit_xor}
use borrow.Author.Rules.{rules}
use Rattle.laws.specs.Matrix.{pick}
use Rattle.hierocrypt3_steps.proofs.bits.picked.Goals as goal

not_zero : (b x : ℕ) → (b ≡ 0 → ⊥) → x ≡ pick bit_xor 0 b x
not_zero zero x h = absurd (h refl)
not_zero (suc b) x h = refl

pub returns : goal.returns
returns c = search (rules, not_zero)
