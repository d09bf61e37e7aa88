use Rattle.std.proofs.Common.{◌≤◌}
use Rattle.key_files.proofs.line.Lines.keep.Given as goal

abbrev pub invariant-loop-c : goal.invariant-loop-c
invariant-loop-c l = l.lines ≤ l.c-index
