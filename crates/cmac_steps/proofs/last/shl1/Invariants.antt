use mathlib.Core.Path.{◌≡◌}
use mathlib.Core.List.{◌++◌}
use Prim.Native.Nat.{◌-◌, ◌≤◌}
use lib.ListN.{take, replicate}
use Rattle.laws.specs.Places.{tab}
use Rattle.cmac.proofs.Shift.{up_at}
use Rattle.cmac_steps.proofs.last.shl1.Given as goal

abbrev pub invariant-loop-i : goal.invariant-loop-i
invariant-loop-i l = (l.i ≤ 16) × (l.y ≡ take l.i (tab 16 (up_at l.x)) ++ replicate (16 - l.i) 0)
