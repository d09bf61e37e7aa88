use Rattle.stream_layout.proofs.Numbers.{Laid}
use Rattle.stream_layout.proofs.number.put.Given as goal

abbrev pub invariant-loop-k : goal.invariant-loop-k
invariant-loop-k l = Laid l.initial.bytes l.at l.width l.n l.bytes l.rest l.k
