-- `quad::product`: a product of two numbers of 32 bits has 64.
use Rattle.laws.proofs.Modular.{mul_lt}
use Rattle.e2_steps.proofs.quad.product.Goals as goal

pub overflow_mul-result : goal.overflow_mul-result
overflow_mul-result c = record { fits = mul_lt 32 c.ranges.x.fits c.ranges.y.fits }
