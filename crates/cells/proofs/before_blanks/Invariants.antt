use Rattle.std.proofs.Common.{◌≡◌, length}
use Rattle.cells.specs.Cells.{before_blanks}
use Rattle.cells.proofs.before_blanks.Given as goal

abbrev pub invariant-loop-rest : goal.invariant-loop-rest
invariant-loop-rest l = before_blanks l.rest ≡ before_blanks l.text

abbrev pub decreases-loop-rest : goal.decreases-loop-rest
decreases-loop-rest l = length l.rest
