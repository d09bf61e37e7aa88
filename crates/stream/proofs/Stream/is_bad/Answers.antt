use mathlib.Core.Path.{sym, ◌∙◌}
use Rattle.stream.proofs.Outcomes.{bad-schedule, bad-direction, bad_count, bad_held, closed-held, good_open}
use Rattle.stream.proofs.Stream.is_bad.Goals as goal

pub returns-then-is_bad : goal.returns-then-is_bad
returns-then-is_bad c = bad-schedule _ (sym c.is_bad.ensures ∙ c.if-is_bad.true)

pub returns-then-not-is_direction : goal.returns-then-not-is_direction
returns-then-not-is_direction c = bad-direction _ (sym c.is_bad.ensures ∙ c.if-is_bad.false) (sym c.is_direction.ensures ∙ c.if-not-is_direction.true)

pub returns-then-self-gt-LIMIT : goal.returns-then-self-gt-LIMIT
returns-then-self-gt-LIMIT c =
    bad_count _ (sym c.is_bad.ensures ∙ c.if-is_bad.false)
    (sym c.is_direction.ensures ∙ c.if-not-is_direction.false) c.if-self-gt-LIMIT.true

pub returns-then-not-zero_from : goal.returns-then-not-zero_from
returns-then-not-zero_from c =
    bad_held _ (sym c.is_bad.ensures ∙ c.if-is_bad.false)
    (sym c.is_direction.ensures ∙ c.if-not-is_direction.false) c.if-self-gt-LIMIT.false
    (sym c.zero_from.ensures ∙ c.if-not-zero_from.true)

pub returns-then-self : goal.returns-then-self
returns-then-self c =
    closed-held _ (sym c.is_bad.ensures ∙ c.if-is_bad.false)
    (sym c.is_direction.ensures ∙ c.if-not-is_direction.false) c.if-self-gt-LIMIT.false
    (sym c.zero_from.ensures ∙ c.if-not-zero_from.false) c.if-self.true

pub returns-else-self : goal.returns-else-self
returns-else-self c =
    c.if-self.false
    ∙ good_open _ (sym c.is_bad.ensures ∙ c.if-is_bad.false)
    (sym c.is_direction.ensures ∙ c.if-not-is_direction.false) c.if-self-gt-LIMIT.false
    (sym c.zero_from.ensures ∙ c.if-not-zero_from.false) c.if-self.false
