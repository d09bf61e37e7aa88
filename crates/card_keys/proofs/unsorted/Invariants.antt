use Prim.Native.Nat.{◌/◌}
use lib.ListN.{length}
use Rattle.card_keys.proofs.Collected.{Collected}
use Rattle.card_keys.proofs.unsorted.Given as goal

abbrev pub invariant-loop-i : goal.invariant-loop-i
invariant-loop-i l = Collected l.card (length l.card / 16) l.places l.len l.i
