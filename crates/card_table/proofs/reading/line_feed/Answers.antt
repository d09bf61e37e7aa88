use Rattle.card_table.proofs.Lines.{cut_here, cut_none}
use Rattle.card_table.proofs.reading.line_feed.Goals as goal

pub returns-then-c-eq10 : goal.returns-then-c-eq10
returns-then-c-eq10 c = cut_here c.args.text.now c.loop-i.i c.loop-i.invariant c.loop-i-test.true c.if-c-eq10.true

pub returns : goal.returns
returns c = cut_none c.args.text.now c.loop-i.i c.loop-i.invariant c.loop-i-test.false
