use Prim.Native.Nat.{◌-◌}
use mathlib.Core.Bool.{false}
use mathlib.Core.Path.{◌≡◌}
use lib.Dec.{eqb}
use lib.ListN.{length, drop}
use Rattle.laws.specs.Choice.{choose}
use Rattle.runs.specs.All.{all}
use Rattle.runs.proofs.all_from.Given as goal

-- all before i were this byte, and all from i on are
abbrev pub invariant-loop-i : goal.invariant-loop-i
invariant-loop-i l = choose (eqb l.any 0) (all l.byte (drop l.i l.bytes)) false ≡ all l.byte (drop l.from l.bytes)
