use native.Mathlib.Nat.{add-zero}
use Rattle.hierocrypt3.proofs.block.column.Goals as goal

pub returns : goal.returns
returns c = simp add-zero
