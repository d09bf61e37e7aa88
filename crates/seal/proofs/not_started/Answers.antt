use mathlib.Core.Path.{ap, ◌∙◌}
use Rattle.refusals.specs.Numbers.{number_of}
use Rattle.seal.specs.State.{fresh}
use Rattle.seal.specs.Calls.{started_as}
use Rattle.seal.proofs.not_started.Goals as goal

pub returns : goal.returns
returns c = ap (started_as (number_of c.args.refusal)) (c.fresh.ensures ∙ ap fresh c.no_schedule.ensures)
