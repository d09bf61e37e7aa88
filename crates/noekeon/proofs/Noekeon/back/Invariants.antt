use mathlib.Core.Path.{◌≡◌}
use Prim.Native.Nat.{◌-◌}
use Rattle.laws.proofs.Rounds.{Stepped}
use Rattle.noekeon_steps.specs.Rule.{rule_of}
use Rattle.noekeon_steps.specs.Steps.{θ, zero_key}
use Rattle.noekeon.specs.Noekeon.{constant, round⁻}
use Rattle.noekeon.proofs.Noekeon.back.Given as goal

abbrev pub invariant-loop-j : goal.invariant-loop-j
invariant-loop-j l = Stepped (round⁻ (rule_of l.self.version) (θ (rule_of l.self.version) zero_key l.k)) l.initial.q l.j l.q × (l.c ≡ constant (rule_of l.self.version) (16 - l.j))
