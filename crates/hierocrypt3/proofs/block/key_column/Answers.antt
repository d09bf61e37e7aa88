use native.Mathlib.Nat.{add-zero}
use Rattle.hierocrypt3.specs.code.Columns.{key_column}
use Rattle.hierocrypt3.proofs.block.key_column.Goals as goal

pub returns : goal.returns
unfolding key_column
returns c = simp add-zero
