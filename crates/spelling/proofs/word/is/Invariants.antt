use Rattle.spelling.proofs.Words.{Alike}
use Rattle.spelling.proofs.word.is.Given as goal

abbrev pub invariant-loop-i : goal.invariant-loop-i
invariant-loop-i l = Alike l.word l.name l.i
