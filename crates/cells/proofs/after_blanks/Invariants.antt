use Rattle.std.proofs.Common.{◌≡◌, length}
use Rattle.cells.specs.Cells.{behind_blanks}
use Rattle.cells.proofs.after_blanks.Given as goal

abbrev pub invariant-loop-rest : goal.invariant-loop-rest
invariant-loop-rest l = behind_blanks l.rest ≡ behind_blanks l.text

abbrev pub decreases-loop-rest : goal.decreases-loop-rest
decreases-loop-rest l = length l.rest
