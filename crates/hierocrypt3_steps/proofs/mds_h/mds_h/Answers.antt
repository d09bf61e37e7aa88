use mathlib.Core.Path.{◌∙◌}
use Rattle.laws.proofs.Known.{arrays_known}
use Rattle.hierocrypt3_steps.specs.Operations.{a, b, c}
use Rattle.hierocrypt3_steps.proofs.RowsH.{rows_are, matrices_H}
use Rattle.hierocrypt3_steps.proofs.mds_h.mds_h.Goals as goal

pub returns : goal.returns
returns k = let x = k.args.x in
    let w = arrays_known 4 4 x _ k.well_formed.0 in
    k.transposed.ensures
    ∙ rows_are a c b a x w k.rows-w.ensures k.turned_row.ensures k.turned_row-2.ensures k.turned_row-3.ensures
    k.turned_row-4.ensures
    ∙ matrices_H x w
