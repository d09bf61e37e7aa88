-- What a piece writes has room.
use mathlib.Core.Path.{◌≡◌, refl, sym, subst}
use mathlib.Core.Bool.{Bool, true, false}
use mathlib.Core.List.{List}
use Prim.Native.Nat.{ℕ, ◌+◌, ◌*◌, ◌≤◌}
use native.Mathlib.Omega.{arith}
use lib.Dec.{eqb, ltb}
use lib.ListN.{length}
use borrow.Author.Tests.{ltb-false}
use Rattle.laws.specs.Choice.{choose}
use Rattle.refusals.specs.Refusals.{done, piece_order}
use Rattle.pieces.specs.Pieces.{limit}
use Rattle.stream.specs.State.{bad_state}
use Rattle.stream.specs.Calls.{made, piece_refusal, fed, fed_as, feed}
use Rattle.stream.specs.Promises.{Feeds}
use Rattle.stream.specs.declared.Stream.{Stream}
use Rattle.stream.specs.Numbered.{Fed}

module _ (w room : ℕ) (x y : Stream) where
  of_order : (bad closed over short : Bool) → ltb room w ≡ short
      → (choose (eqb (piece_order bad closed over short) done) (fed_as done w x) (fed_as (piece_order bad closed over short) 0 y)).written ≤ room
  of_order true closed over short e = omega arith
  of_order false true over short e = omega arith
  of_order false false true short e = omega arith
  of_order false false false true e = omega arith
  of_order false false false false e = ltb-false room w e

within_room : (s : Stream) (piece : List ℕ) (room : ℕ) → (feed s piece room).written ≤ room
unfolding feed piece_refusal
within_room s piece room =
    of_order (16 * made s (length piece)) room (fed s piece) s (bad_state s) s.closed (ltb limit (s.count + length piece)) (ltb room (16 * made s (length piece))) refl

pub written_within : (s : Stream) (piece o o' : List ℕ) (r : Fed) → Feeds s piece o r o' → r.written ≤ length o
written_within s piece o o' r h = subst (λ (f : Fed). f.written ≤ length o) (sym h.returned) (within_room s piece (length o))
