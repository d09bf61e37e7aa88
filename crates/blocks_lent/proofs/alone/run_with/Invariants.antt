use Rattle.cbc.proofs.Loop.{Laid}
use Rattle.blocks_lent.proofs.Each.{given}
use Rattle.blocks_lent.proofs.alone.run_with.Given as goal

abbrev pub invariant-loop-j : goal.invariant-loop-j
invariant-loop-j g l = Laid l.initial.out (given (g.F.BlockFunction.of l.f l.keys) l.input l.j) l.j l.out
