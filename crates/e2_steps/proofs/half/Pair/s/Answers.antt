-- `Pair::s`: word by word.
use mathlib.Core.List.{◌++◌}
use mathlib.Core.Path.{ap₂}
use Rattle.e2_steps.specs.Steps.{S}
use Rattle.words.proofs.OfWord.{bytes_of_lem}
use Rattle.e2_steps.proofs.half.Pair.s.Goals as goal

pub returns : goal.returns
unfolding S
returns c = ap₂ ◌++◌ (bytes_of_lem c.s_word.ensures) (bytes_of_lem c.s_word-2.ensures)
