use mathlib.Core.Path.{◌≡◌}
use Prim.Native.Nat.{◌-◌, ◌<◌}
use lib.ListN.{length, drop}
use Rattle.hex_text.specs.Hex.{digits}
use Rattle.hex_text.proofs.text.digit_from.Given as goal

-- nothing but white space was passed
abbrev pub invariant-loop-i : goal.invariant-loop-i
invariant-loop-i l = (digits (drop l.from l.text) ≡ digits (drop l.i l.text)) × (l.i < length l.text)

abbrev pub decreases-loop-i : goal.decreases-loop-i
decreases-loop-i l = length l.text - l.i
