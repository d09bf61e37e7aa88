use Rattle.cells.proofs.AllCells.{Reaching}
use Rattle.cells.proofs.text.Given as goal

abbrev pub invariant-loop : goal.invariant-loop
invariant-loop l = Reaching l.line l.n l.rest l.counter
