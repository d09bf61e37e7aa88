use mathlib.Core.Path.{◌∙◌}
use Rattle.hierocrypt3_steps.specs.code.Columns.{turned_sum}
use Rattle.hierocrypt3_steps.proofs.MdsL.{mds_l⁻_turned}
use Rattle.hierocrypt3_steps.proofs.mds_l.mds_l_inverse.Goals as goal

pub returns : goal.returns
returns c = c.turned_sum.ensures
    ∙ (λ i. turned_sum (c.u.ensures i) (c.u-2.ensures i) (c.u-3.ensures i) (c.u-4.ensures i))
    ∙ mds_l⁻_turned c.args.x
