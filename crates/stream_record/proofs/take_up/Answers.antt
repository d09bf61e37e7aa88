use mathlib.Core.Path.{◌≡◌, sym, ap, ◌∙◌}
use Rattle.refusals.specs.Refusals.{done}
use Rattle.refusals.proofs.Numbers.{not_done}
use Rattle.stream.specs.Calls.{started_as}
use Rattle.stream.specs.Numbered.{started_in_numbers}
use Rattle.stream_record.specs.Record.{stream_from}
use Rattle.stream_record.specs.Calls.{take_up_refusal}
use Rattle.stream_record.proofs.Outcomes.{accepted, not_taken, taken_up}
use Rattle.stream_record.proofs.take_up.Goals as goal

pub returns-in-Err : goal.returns-in-Err
returns-in-Err c = record { returned = ap started_in_numbers c.not_started.ensures ∙ not_taken _ _ _ c.in-Err.ensures (not_done c.in-Err.refusal) }

pub read-requires : goal.read-requires
read-requires c =
    let done_is : take_up_refusal c.args.schedule c.args.«record».now ≡ done = sym c.in_default.ensures in
    (accepted _ _ done_is).whole

pub returns : goal.returns
returns c =
    let done_is : take_up_refusal c.args.schedule c.args.«record».now ≡ done = sym c.in_default.ensures in
    let spelled = c.stream_from.ensures ∙ ap (stream_from c.args.schedule) c.read.ensures in
    record { returned = ap (started_as done) spelled ∙ taken_up _ _ done_is }
