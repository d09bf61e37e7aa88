use Rattle.card_fields.specs.Fields.{slot_at}
use Rattle.wording.proofs.Adding.{left_on, left_none, adds_on}
use Rattle.card_table.specs.Written.{table_of}
use Rattle.card_table.proofs.WrittenLines.{next_line_of, no_more_lines}
use Rattle.card_table.proofs.writing.write.Goals as goal

pub loop-i-preserved : goal.loop-i-preserved
loop-i-preserved c =
    let card = c.args.card.now in
    let i = c.loop-i.i in
    left_on c.loop-i.invariant (next_line_of card i c.loop-i-test.true) (c.line.ensures (slot_at card i) c.at.ensures)

pub returns : goal.returns
unfolding table_of
returns c = adds_on c.words.ensures (left_none c.loop-i.invariant (no_more_lines c.args.card.now c.loop-i.i c.loop-i-test.false))
