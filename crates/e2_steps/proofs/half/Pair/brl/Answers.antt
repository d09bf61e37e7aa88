-- `Pair::brl`: each byte comes from the place that BRL says.
use mathlib.Core.List.{◌++◌}
use mathlib.Core.Path.{ap₂}
use Rattle.e2_steps.specs.Steps.{BRL}
use Rattle.words.proofs.OfWord.{bytes_of_lem}
use Rattle.e2_steps.proofs.half.Pair.brl.Goals as goal

pub returns : goal.returns
unfolding BRL
returns c = ap₂ ◌++◌ (bytes_of_lem c.moved.ensures) (bytes_of_lem c.moved-2.ensures)
