use mathlib.Core.Path.{◌≡◌}
use Prim.Native.Nat.{◌≤◌, ◌+◌}
use lib.ListN.{length, drop}
use Rattle.hex_text.specs.Hex.{first_bad}
use Rattle.hex_text.proofs.text.first_bad.Given as goal

abbrev pub invariant-loop-i : goal.invariant-loop-i
invariant-loop-i l = (l.i ≤ length l.text) × (l.i + first_bad (drop l.i l.text) ≡ first_bad l.text)
