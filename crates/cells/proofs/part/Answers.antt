use mathlib.Core.Path.{sym}
use Rattle.cells.proofs.Texts.{part_past, part_none, part_is}
use Rattle.cells.proofs.part.Goals as goal

pub returns-then-to-line : goal.returns-then-to-line
returns-then-to-line c = part_past c.args.line.now c.args.from c.args.to c.if-to-line.true

pub returns-then-from-to : goal.returns-then-from-to
returns-then-from-to c = part_none c.args.line.now c.args.from c.args.to c.if-to-line.false c.if-from-to.true

pub returns : goal.returns
returns c = sym (part_is _ _ _ c.if-to-line.false)
