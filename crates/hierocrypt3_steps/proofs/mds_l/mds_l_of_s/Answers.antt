use mathlib.Core.Path.{◌∙◌}
use Rattle.hierocrypt3_steps.specs.code.Columns.{turned_sum}
use Rattle.hierocrypt3_steps.proofs.MdsL.{mds_l_turned}
use Rattle.hierocrypt3_steps.proofs.mds_l.mds_l_of_s.Goals as goal

pub returns : goal.returns
returns c = c.turned_sum.ensures
    ∙ (λ i. turned_sum (c.t.ensures i) (c.t-2.ensures i) (c.t-3.ensures i) (c.t-4.ensures i))
    ∙ mds_l_turned c.args.x
