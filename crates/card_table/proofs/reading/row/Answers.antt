use mathlib.Core.Path.{sym, ap, ◌∙◌}
use borrow.Author.Tests.{not-true, not-false}
use Rattle.card_table.specs.code.State.{read_of}
use Rattle.card_table.specs.declared.reading.Table.{Table}
use Rattle.card_table.proofs.Records.{quote_out_of_place, passed_over, not_six_fields, wrong_field, right_fields}
use Rattle.card_table.proofs.reading.row.Goals as goal

pub returns-then-not-l : goal.returns-then-not-l
returns-then-not-l g c =
    let a = c.args in
    ap (λ (t : Table). read_of t a.card.now) c.wrong.ensures
    ∙ quote_out_of_place (read_of a.before a.card.now) a.line.now (sym c.count-l.ensures.good ∙ not-true _ c.if-not-l.true)

pub returns-then-not-l-2 : goal.returns-then-not-l-2
returns-then-not-l-2 g c =
    let a = c.args in
    passed_over (read_of a.before a.card.now) a.line.now (sym c.count-l.ensures.good ∙ not-false _ c.if-not-l.false)
    (sym c.count-l.ensures.filled ∙ not-true _ c.if-not-l-2.true)

pub returns-then-l-ne6 : goal.returns-then-l-ne6
returns-then-l-ne6 g c =
    let a = c.args in
    ap (λ (t : Table). read_of t a.card.now) c.wrong-then-l-ne6.ensures
    ∙ not_six_fields (read_of a.before a.card.now) a.line.now (sym c.count-l.ensures.good ∙ not-false _ c.if-not-l.false)
    (sym c.count-l.ensures.filled ∙ not-false _ c.if-not-l-2.false) (λ z. c.if-l-ne6.true (c.count-l.ensures.cells ∙ z))

pub returns-in-None : goal.returns-in-None
returns-in-None g c =
    let a = c.args in
    ap (λ (t : Table). read_of t a.card.now) c.wrong-in-None.ensures
    ∙ wrong_field (read_of a.before a.card.now) a.line.now (sym c.count-l.ensures.good ∙ not-false _ c.if-not-l.false)
    (sym c.count-l.ensures.filled ∙ not-false _ c.if-not-l-2.false) (sym c.count-l.ensures.cells ∙ c.if-l-ne6.false) c.in-None.ensures

pub returns-in-Some : goal.returns-in-Some
returns-in-Some g c =
    let a = c.args in
    c.put.ensures
    ∙ right_fields (read_of a.before a.card.now) a.line.now (sym c.count-l.ensures.good ∙ not-false _ c.if-not-l.false)
    (sym c.count-l.ensures.filled ∙ not-false _ c.if-not-l-2.false) (sym c.count-l.ensures.cells ∙ c.if-l-ne6.false) c.in-Some.ensures
