use Rattle.std.proofs.Common.{Some, sym, ap, ◌∙◌}
use Rattle.record_words.proofs.Outcomes.{is_climb, is_hold, is_drop, no_kind}
use Rattle.record_words.proofs.record.kind.Goals as goal

pub returns-then-is : goal.returns-then-is
returns-then-is g c = ap Some c.from.ensures ∙ is_climb c.args.text.now (sym c.is.ensures ∙ c.if-is.true)

pub returns-then-is-2 : goal.returns-then-is-2
returns-then-is-2 g c =
    ap Some c.from-then-is-2.ensures
    ∙ is_hold c.args.text.now (sym c.is.ensures ∙ c.if-is.false) (sym c.is-2.ensures ∙ c.if-is-2.true)

pub returns-then-is-3 : goal.returns-then-is-3
returns-then-is-3 g c =
    ap Some c.from-then-is-3.ensures
    ∙ is_drop c.args.text.now (sym c.is.ensures ∙ c.if-is.false) (sym c.is-2.ensures ∙ c.if-is-2.false)
    (sym c.is-3.ensures ∙ c.if-is-3.true)

pub returns : goal.returns
returns g c =
    no_kind c.args.text.now (sym c.is.ensures ∙ c.if-is.false) (sym c.is-2.ensures ∙ c.if-is-2.false)
    (sym c.is-3.ensures ∙ c.if-is-3.false)
