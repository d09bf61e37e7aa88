use Rattle.laws.proofs.Rounds.{Stepped}
use Rattle.noekeon_steps.specs.Rule.{rule_of}
use Rattle.noekeon.specs.Noekeon.{round}
use Rattle.noekeon.proofs.Noekeon.forth.Given as goal

abbrev pub invariant-loop-i : goal.invariant-loop-i
invariant-loop-i l = Stepped (round (rule_of l.self.version) l.k) l.initial.q l.i l.q
