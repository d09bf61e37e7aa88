use mathlib.Core.Path.{refl}
use Rattle.cells.specs.Cells.{is_blank}
use Rattle.cells.proofs.is_blank.Goals as goal

pub returns : goal.returns
unfolding is_blank
returns c = refl
