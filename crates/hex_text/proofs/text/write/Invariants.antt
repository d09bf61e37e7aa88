use Rattle.hex_text.proofs.Texts.{Laying}
use Rattle.hex_text.proofs.text.write.Given as goal

abbrev pub invariant-loop-k : goal.invariant-loop-k
invariant-loop-k l = Laying l.text l.initial.out l.out l.n l.i l.k
