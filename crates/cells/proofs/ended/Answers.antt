use Rattle.std.proofs.Common.{sym, ◌∙◌}
use Rattle.cells.specs.Cells.{ended}
use Rattle.cells.proofs.ended.Goals as goal

pub returns-then-ends : goal.returns-then-ends
unfolding ended
returns-then-ends c = rw (sym c.ends.ensures ∙ c.if-ends.true)

pub returns : goal.returns
unfolding ended
returns c = rw (sym c.ends.ensures ∙ c.if-ends.false)
