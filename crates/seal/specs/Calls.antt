-- What start, a piece, writing the seal and checking one answer, return and write, on any input: 02, request 3.
use Rattle.std.specs.Prelude.{Bool, true, false, List, [], ◌∷◌, ◌++◌, ℕ, ◌+◌, ◌*◌, ltb, eqb, length, drop}
use Rattle.laws.specs.Choice.{choose}
use Rattle.runs.specs.Same.{same}
use Rattle.refusals.specs.Refusals.{done, seal_start_order, seal_piece_order, seal_write_order, seal_check_order}
use Rattle.cbc.specs.Cbc.{blocks}
use Rattle.cmac.specs.Cmac.{K1, K2, last, chained, pushed}
use Rattle.pieces.specs.Pieces.{limit, held_in}
use Rattle.cipher.specs.Schedule.{bad, enciphered}
use Rattle.cipher.specs.declared.Schedule.{Schedule}
use Rattle.seal.specs.State.{seal_of, fresh, held_bytes, at_hand, bad_state, zero_seal}
use Rattle.seal.specs.declared.Seal.{Seal}
use Rattle.seal.specs.Numbered.{Started}
use Rattle.seal.specs.Numbered.{Fed}
use Rattle.seal.specs.Numbered.{Written}
use Rattle.seal.specs.Numbered.{Checked}

-- ---- start
unfoldable pub start_refusal : Schedule → ℕ
start_refusal s = seal_start_order (bad s)

abbrev pub started_as : (answer : ℕ) → Seal → Started
started_as n s = record { answer = n; seal = s }

unfoldable pub start : Schedule → Started
start s =
    choose (eqb (start_refusal s) done)
    (started_as done (fresh s))
    (started_as (start_refusal s) zero_seal)

-- ---- a piece
unfoldable pub piece_refusal : Seal → (piece : ℕ) → ℕ
piece_refusal s n = seal_piece_order (bad_state s) s.closed (ltb limit (s.count + n))

-- the blocks that a piece of n bytes puts before the last one
abbrev pub made : Seal → ℕ → ℕ
made s n = pushed s.count n

-- the state where the piece is accepted
unfoldable pub fed : Seal → List ℕ → Seal
fed s piece =
    seal_of s.schedule (s.count + length piece)
    (chained (enciphered s.schedule) s.chain (blocks (made s (length piece)) (at_hand s piece)))
    (held_in 16 (drop (16 * made s (length piece)) (at_hand s piece)))
    s.closed

abbrev pub fed_as : (answer : ℕ) → Seal → Fed
fed_as n s = record { answer = n; next = s }

unfoldable pub feed : Seal → List ℕ → Fed
feed s piece =
    choose (eqb (piece_refusal s (length piece)) done)
    (fed_as done (fed s piece))
    (fed_as (piece_refusal s (length piece)) s)

-- ---- the end: the last block is the held bytes
unfoldable pub sealed : Seal → List ℕ
sealed s =
    chained (enciphered s.schedule) s.chain (last (K1 (enciphered s.schedule)) (K2 (enciphered s.schedule)) (held_bytes s) ∷ [])

abbrev pub closed_seal : Seal → Seal
closed_seal s = seal_of s.schedule s.count s.chain s.held true

-- ---- writing the seal
unfoldable pub write_refusal : Seal → (room : ℕ) → ℕ
write_refusal s room = seal_write_order (bad_state s) s.closed (ltb room 16)

abbrev pub written_as : (answer : ℕ) → Seal → Written
written_as n s = record { answer = n; next = s }

unfoldable pub write : Seal → (room : ℕ) → Written
write s room =
    choose (eqb (write_refusal s room) done)
    (written_as done (closed_seal s))
    (written_as (write_refusal s room) s)

-- what the output holds afterwards
unfoldable pub write_out : Seal → List ℕ → List ℕ
write_out s o = choose (eqb (write_refusal s (length o)) done) (sealed s ++ drop 16 o) o

-- ---- checking one
unfoldable pub check_refusal : Seal → ℕ
check_refusal s = seal_check_order (bad_state s) s.closed

abbrev pub checked_as : (answer : ℕ) → (yes : Bool) → Seal → Checked
checked_as n y s = record { answer = n; yes = y; next = s }

unfoldable pub check : Seal → List ℕ → Checked
check s given =
    choose (eqb (check_refusal s) done)
    (checked_as done (same given (sealed s)) (closed_seal s))
    (checked_as (check_refusal s) false s)
