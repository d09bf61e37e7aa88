-- `block::bp`: each byte comes from the place that BP says.
use mathlib.Core.List.{◌++◌}
use mathlib.Core.Path.{ap₂}
use Rattle.e2_steps.specs.Steps.{BP}
use Rattle.words.proofs.OfWord.{bytes_of_lem}
use Rattle.e2.proofs.block.bp.Goals as goal

pub returns : goal.returns
unfolding BP
returns c = ap₂ ◌++◌ (ap₂ ◌++◌ (bytes_of_lem c.diagonal.ensures) (bytes_of_lem c.diagonal-2.ensures))
    (ap₂ ◌++◌ (bytes_of_lem c.diagonal-3.ensures) (bytes_of_lem c.diagonal-4.ensures))
