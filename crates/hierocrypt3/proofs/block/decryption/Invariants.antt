use Prim.Native.Nat.{◌+◌}
use Rattle.laws.specs.Rounds.{back}
use Rattle.laws.proofs.Rounds.{Falling}
use Rattle.hierocrypt3.specs.code.Columns.{round_at⁻}
use Rattle.hierocrypt3.proofs.block.decryption.Given as goal

abbrev pub invariant-loop-i : goal.invariant-loop-i
invariant-loop-i l = Falling (round_at⁻ l.keys l.n) (back (l.n + 1) (round_at⁻ l.keys l.n) l.initial.x) l.i l.x
