use Rattle.spelling.proofs.Reading.{Reading}
use Rattle.spelling.proofs.number.whole.Given as goal

abbrev pub invariant-loop-c : goal.invariant-loop-c
invariant-loop-c l = Reading l.text l.value l.c-index
