use Rattle.laws.proofs.Rounds.{Stepped}
use Rattle.hierocrypt3.specs.code.Columns.{round_at}
use Rattle.hierocrypt3.proofs.block.encryption.Given as goal

abbrev pub invariant-loop-i : goal.invariant-loop-i
invariant-loop-i l = Stepped (round_at l.keys l.n) l.initial.x l.i l.x
