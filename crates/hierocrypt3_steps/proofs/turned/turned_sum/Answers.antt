use mathlib.Core.Path.{◌∙◌}
use mathlib.Core.List.{[], ◌∷◌}
use lib.Bits.{bit_xor}
use Rattle.laws.specs.Bytes.{bytes_of}
use Rattle.hierocrypt3_steps.specs.code.Columns.{turned_sum}
use Rattle.hierocrypt3_steps.proofs.turned.turned_sum.Goals as goal

pub returns : goal.returns
unfolding turned_sum
returns c = c.bytes.ensures
    ∙ (λ i. bytes_of (bit_xor (bit_xor (bit_xor c.args.x (c.rotated.ensures i)) (c.rotated-2.ensures i))
    (c.rotated-3.ensures i) ∷ []))
