-- `quad::over_word`: the product with the inverse.
use mathlib.Core.Path.{ap, ◌∙◌}
use Prim.Native.Nat.{ℕ, ◌*◌, ◌%◌, ◌^◌}
use Rattle.e2_steps.proofs.quad.over_word.Goals as goal

pub returns : goal.returns
returns c = let x = c.args.x in
    c.product.ensures ∙ ap (λ (z : ℕ). x * z % 2 ^ 32) c.inverse-i.ensures
