-- What start, a piece and finish answer, return and write, on any input: 01, 'Refusal numbers'.
use Rattle.std.specs.Prelude.{true, not, List, ◌++◌, ℕ, ◌+◌, ◌*◌, ltb, eqb, length, drop}
use Rattle.laws.specs.Choice.{choose}
use Rattle.refusals.specs.Refusals.{done, start_order, piece_order, finish_order}
use Rattle.cipher_numbers.specs.Ciphers.{is_direction}
use Rattle.cipher.specs.Schedule.{bad, enciphered, deciphered}
use Rattle.cipher.specs.declared.Schedule.{Schedule}
use Rattle.cbc.specs.Cbc.{out, chain, join, blocks, completed}
use Rattle.pieces.specs.Pieces.{limit, held15}
use Rattle.stream.specs.State.{stream_of, fresh, held_number, at_hand, bad_state, zero_stream}
use Rattle.stream.specs.declared.Stream.{Stream}
use Rattle.stream.specs.declared.Started as started
use Rattle.stream.specs.Numbered.{Started}
use Rattle.stream.specs.Numbered.{Fed}
use Rattle.stream.specs.Numbered.{Finished}

-- ---- start
unfoldable pub start_refusal : Schedule → ℕ → (first : ℕ) → ℕ
start_refusal s d n = start_order (bad s) (not (is_direction d)) (not (eqb n 16))

abbrev pub started_as : {A : Type 0} → (answer : A) → Stream → started.Started A
started_as n s = record { answer = n; stream = s }

unfoldable pub start : Schedule → ℕ → List ℕ → Started
start s d first =
    choose (eqb (start_refusal s d (length first)) done)
    (started_as done (fresh s d first))
    (started_as (start_refusal s d (length first)) zero_stream)

-- ---- a piece
-- the blocks that a piece of n bytes completes
abbrev pub made : Stream → ℕ → ℕ
made s n = completed s.count n

unfoldable pub piece_refusal : Stream → (piece room : ℕ) → ℕ
piece_refusal s n room = piece_order (bad_state s) s.closed (ltb limit (s.count + n)) (ltb room (16 * made s n))

-- the whole blocks among the held bytes and the piece
abbrev pub blocks_of : Stream → List ℕ → List (List ℕ)
blocks_of s piece = blocks (made s (length piece)) (at_hand s piece)

-- the state and the bytes written where the piece is accepted
unfoldable pub fed : Stream → List ℕ → Stream
fed s piece =
    stream_of s.schedule s.direction (s.count + length piece)
    (chain (enciphered s.schedule) s.direction s.chain (blocks_of s piece))
    (held15 (drop (16 * made s (length piece)) (at_hand s piece)))
    s.closed

unfoldable pub fed_bytes : Stream → List ℕ → List ℕ
fed_bytes s piece = join (out (enciphered s.schedule) (deciphered s.schedule) s.direction s.chain (blocks_of s piece))

abbrev pub fed_as : (answer written : ℕ) → Stream → Fed
fed_as n w s = record { answer = n; written = w; next = s }

unfoldable pub feed : Stream → List ℕ → (room : ℕ) → Fed
feed s piece room =
    choose (eqb (piece_refusal s (length piece) room) done)
    (fed_as done (16 * made s (length piece)) (fed s piece))
    (fed_as (piece_refusal s (length piece) room) 0 s)

-- what the output holds afterwards
unfoldable pub feed_out : Stream → List ℕ → List ℕ → List ℕ
feed_out s piece o =
    choose (eqb (piece_refusal s (length piece) (length o)) done)
    (fed_bytes s piece ++ drop (16 * made s (length piece)) o)
    o

-- ---- finish
unfoldable pub finish_refusal : Stream → ℕ
finish_refusal s = finish_order (bad_state s) s.closed (not (eqb (held_number s) 0))

abbrev pub closed_stream : Stream → Stream
closed_stream s = stream_of s.schedule s.direction s.count s.chain s.held true

abbrev pub finished_as : (answer : ℕ) → Stream → Finished
finished_as n s = record { answer = n; next = s }

unfoldable pub finish : Stream → Finished
finish s =
    choose (eqb (finish_refusal s) done)
    (finished_as done (closed_stream s))
    (finished_as (finish_refusal s) s)
