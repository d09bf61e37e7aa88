use Rattle.card_compare.proofs.Written.{Written}
use Rattle.card_compare.proofs.list.write.Given as goal

abbrev pub invariant-loop-i : goal.invariant-loop-i
invariant-loop-i l = Written l.list l.initial.out l.out l.i
