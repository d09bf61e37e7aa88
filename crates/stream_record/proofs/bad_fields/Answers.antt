use mathlib.Core.Path.{ap, ◌∙◌}
use Rattle.stream.specs.State.{bad_state}
use Rattle.stream_record.proofs.Outcomes.{bad_closed, bad_last, by_state}
use Rattle.stream_record.proofs.bad_fields.Goals as goal

pub returns-then-f-gt1 : goal.returns-then-f-gt1
returns-then-f-gt1 c = bad_closed _ c.if-f-gt1.true

pub returns-then-f-ne0 : goal.returns-then-f-ne0
returns-then-f-ne0 c = bad_last _ c.if-f-gt1.false c.if-f-ne0.true

pub returns : goal.returns
returns c = c.is_bad.ensures ∙ ap bad_state c.stream_from.ensures ∙ by_state _ c.if-f-gt1.false c.if-f-ne0.false
