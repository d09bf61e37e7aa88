use Rattle.std.proofs.Common.{◌≡◌, ◌+◌, length, drop}
use Rattle.card_table.specs.code.Line.{line_of}
use Rattle.card_table.proofs.reading.line_feed.Given as goal

abbrev pub invariant-loop-i : goal.invariant-loop-i
invariant-loop-i l = l.i + length (line_of (drop l.i l.text)) ≡ length (line_of l.text)
