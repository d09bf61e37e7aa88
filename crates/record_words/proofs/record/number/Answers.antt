use Rattle.std.proofs.Common.{sym, ◌∙◌, arith}
use Rattle.record_words.proofs.Outcomes.{no_number, may_not_be, may_be_lem, two_bytes}
use Rattle.record_words.proofs.record.number.Goals as goal

pub returns-in_default : goal.returns-in_default
returns-in_default g c = no_number c.args.field c.args.text.now (sym c.in_default.is ∙ c.spelled.ensures)

pub returns-then-not-may_be : goal.returns-then-not-may_be
returns-then-not-may_be g c =
    may_not_be c.args.field c.args.text.now c.in-Some.ensures (sym c.may_be.ensures ∙ c.if-not-may_be.true)

pub returns : goal.returns
returns g c =
    may_be_lem c.args.field c.args.text.now c.in-Some.ensures (sym c.may_be.ensures ∙ c.if-not-may_be.false)

pub overflow_cast-result : goal.overflow_cast-result
overflow_cast-result g c =
    let h = two_bytes _ _ (sym c.may_be.ensures ∙ c.if-not-may_be.false) in
    omega arith
