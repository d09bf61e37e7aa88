use Rattle.std.proofs.Common.{length}
use Rattle.cells.proofs.AllCells.{Counting}
use Rattle.cells.proofs.count.Given as goal

abbrev pub invariant-loop-cell : goal.invariant-loop-cell
invariant-loop-cell l = Counting l.line l.rest l.cells l.filled

abbrev pub decreases-loop-cell : goal.decreases-loop-cell
decreases-loop-cell l = length l.rest
