use mathlib.Core.Path.{◌∙◌}
use Rattle.stream_record.proofs.Outcomes.{wrong_length, by_fields}
use Rattle.stream_record.proofs.take_up_refusal.Goals as goal

pub returns-then-record-ne-LENGTH : goal.returns-then-record-ne-LENGTH
returns-then-record-ne-LENGTH c = c.first.ensures ∙ rw c.is_bad-bad.ensures (wrong_length _ _ c.if-record-ne-LENGTH.true)

pub returns : goal.returns
returns c =
    c.first-2.ensures
    ∙ rw (c.is_bad-bad.ensures, c.bad_fields.ensures, c.differs.ensures, c.read-f.ensures) (by_fields _ _ c.if-record-ne-LENGTH.false)
