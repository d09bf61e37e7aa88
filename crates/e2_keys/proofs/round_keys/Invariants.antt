use Rattle.e2_keys.proofs.Generations.{Generating}
use Rattle.e2_keys.proofs.round_keys.Given as goal

abbrev pub invariant-loop-i : goal.invariant-loop-i
invariant-loop-i l = Generating l.key l.i l.y l.l l.r
