use mathlib.Core.List.{[], ◌∷◌}
use Rattle.hierocrypt3_steps.specs.code.Columns.{bit_row}
use Rattle.hierocrypt3_keys.proofs.operations.bit_matrix.Goals as goal

pub returns : goal.returns
unfolding bit_row
returns c = λ i. c.row_times.ensures i ∷ c.row_times-2.ensures i ∷ c.row_times-3.ensures i ∷ c.row_times-4.ensures i ∷ []
