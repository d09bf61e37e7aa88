use mathlib.Core.Path.{◌≡◌}
use Prim.Native.Nat.{◌≤◌}
use lib.ListN.{length, drop}
use Rattle.speed.specs.Works.{by_bytes}
use Rattle.speed.proofs.tlilcueyoh_speed_bytes.Given as goal

abbrev pub invariant-loop-i : goal.invariant-loop-i
invariant-loop-i l = (l.i ≤ length l.input) × (length l.output ≡ length l.initial.output) × (by_bytes l.stream (drop l.i l.input) l.output ≡ by_bytes l.initial.stream l.input l.initial.output)
