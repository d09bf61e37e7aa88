use mathlib.Core.Path.{ap, ◌∙◌}
use lib.ListN.{replicate}
use Rattle.cipher.specs.declared.Schedule.{Schedule}
use Rattle.stream.specs.State.{fresh}
use Rattle.stream.specs.Calls.{started_as}
use Rattle.stream.proofs.not_started.Goals as goal

pub returns : goal.returns
returns g c =
    ap (started_as c.args.answer)
    (c.fresh.ensures ∙ ap (λ (s : Schedule). fresh s 0 (replicate 16 0)) c.no_schedule.ensures)
