use mathlib.Core.Path.{sym, ◌∙◌}
use Rattle.seal.proofs.Outcomes.{bad-schedule, bad_count, bad_held, good_long, by_chain}
use Rattle.seal.proofs.Seal.is_bad.Goals as goal

pub returns-then-is_bad : goal.returns-then-is_bad
returns-then-is_bad c = bad-schedule _ (sym c.is_bad.ensures ∙ c.if-is_bad.true)

pub returns-then-self-gt-LIMIT : goal.returns-then-self-gt-LIMIT
returns-then-self-gt-LIMIT c = bad_count _ (sym c.is_bad.ensures ∙ c.if-is_bad.false) c.if-self-gt-LIMIT.true

pub returns-then-not-zero_from : goal.returns-then-not-zero_from
returns-then-not-zero_from c =
    bad_held _ (sym c.is_bad.ensures ∙ c.if-is_bad.false) c.if-self-gt-LIMIT.false _ c.held_number.ensures.0
    (sym c.zero_from.ensures ∙ c.if-not-zero_from.true)

pub returns-then-self-gt16 : goal.returns-then-self-gt16
returns-then-self-gt16 c =
    good_long _ (sym c.is_bad.ensures ∙ c.if-is_bad.false) c.if-self-gt-LIMIT.false _ c.held_number.ensures.0
    (sym c.zero_from.ensures ∙ c.if-not-zero_from.false) c.if-self-gt16.true

pub returns : goal.returns
returns c =
    by_chain _ (sym c.is_bad.ensures ∙ c.if-is_bad.false) c.if-self-gt-LIMIT.false _ c.held_number.ensures.0
    (sym c.zero_from.ensures ∙ c.if-not-zero_from.false) c.if-self-gt16.false _ c.zero_from-2.ensures
