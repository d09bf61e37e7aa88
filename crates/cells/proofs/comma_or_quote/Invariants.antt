use Rattle.std.proofs.Common.{◌≡◌, ◌+◌, length, drop}
use Rattle.cells.specs.Cells.{plain}
use Rattle.cells.proofs.comma_or_quote.Given as goal

abbrev pub invariant-loop-i : goal.invariant-loop-i
invariant-loop-i l = l.i + length (plain (drop l.i l.text)) ≡ length (plain l.text)
