use mathlib.Core.Path.{◌≡◌}
use Prim.Native.Nat.{◌≤◌}
use lib.ListN.{length, drop}
use Rattle.seal_speed.specs.Works.{in_pieces, ones}
use Rattle.seal_speed.proofs.tlilcueyoh_speed_seal_bytes.Given as goal

abbrev pub invariant-loop-i : goal.invariant-loop-i
invariant-loop-i l = (l.i ≤ length l.input) × (in_pieces l.seal (ones (drop l.i l.input)) l.output ≡ in_pieces l.initial.seal (ones l.input) l.output)
