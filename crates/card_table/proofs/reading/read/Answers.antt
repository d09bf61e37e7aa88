use Rattle.std.proofs.Common.{sym, ap, ◌∙◌}
use Rattle.card_table.specs.Table.{without_return}
use Rattle.card_table.proofs.Headers.{header_wrong, header_right}
use Rattle.card_table.proofs.reading.read.Goals as goal

pub returns-then-not-is_header : goal.returns-then-not-is_header
returns-then-not-is_header g c =
    header_wrong c.args.card.now c.args.table.now c.without_mark.ensures
    (c.without_return.ensures ∙ ap without_return c.first_line.ensures.line) (sym c.is_header.ensures ∙ c.if-not-is_header.true)

pub returns : goal.returns
returns g c =
    c.rows.ensures
    ∙ header_right c.args.card.now c.args.table.now c.without_mark.ensures
    (c.without_return.ensures ∙ ap without_return c.first_line.ensures.line) c.first_line.ensures.rest
    (sym c.is_header.ensures ∙ c.if-not-is_header.false)
