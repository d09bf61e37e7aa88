use Prim.Native.Nat.{◌-◌}
use Rattle.stream_layout.proofs.Numbers.{Read}
use Rattle.stream_layout.proofs.number.at.Given as goal

abbrev pub invariant-loop-i : goal.invariant-loop-i
invariant-loop-i l = Read l.bytes l.from l.width l.n l.i
