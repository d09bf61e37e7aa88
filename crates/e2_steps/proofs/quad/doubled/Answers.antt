-- `quad::doubled`: 2 - z * y may be reduced before it is multiplied.
use mathlib.Core.Path.{ap, ◌∙◌}
use Prim.Native.Nat.{ℕ, ◌+◌, ◌-◌, ◌*◌, ◌%◌, ◌^◌}
use Rattle.laws.proofs.Modular.{mul_mod_r}
use Rattle.e2_steps.proofs.quad.doubled.Goals as goal

pub returns : goal.returns
returns c = let a = c.args in
    c.product-2.ensures
    ∙ ap (λ (p : ℕ). a.y * ((2 + (2 ^ 32 - p)) % 2 ^ 32) % 2 ^ 32) c.product.ensures
    ∙ mul_mod_r a.y (2 + (2 ^ 32 - a.z * a.y % 2 ^ 32)) (2 ^ 32)
