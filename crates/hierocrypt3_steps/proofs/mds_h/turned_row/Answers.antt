use mathlib.Core.Path.{◌∙◌}
use Rattle.hierocrypt3_steps.specs.code.Columns.{turned_sum}
use Rattle.hierocrypt3_steps.proofs.mds_h.turned_row.Goals as goal

pub returns : goal.returns
returns c = c.turned_sum.ensures
    ∙ (λ i. turned_sum (c.bit_row.ensures i) (c.bit_row-2.ensures i) (c.bit_row-3.ensures i) (c.bit_row-4.ensures i))
