-- The stream's state and when it is bad: 01, 'The two records'.
use Rattle.std.specs.Prelude.{Bool, true, false, not, List, ◌++◌, ℕ, ◌%◌, ltb, eqb, take, drop, replicate}
use Rattle.laws.specs.Choice.{choose}
use Rattle.runs.specs.Zeros.{zeros}
use Rattle.pieces.specs.Pieces.{limit}
use Rattle.cipher_numbers.specs.Ciphers.{is_direction}
use Rattle.cipher.specs.Schedule.{bad, zero_schedule}
use Rattle.cipher.specs.declared.Schedule.{Schedule}
use Rattle.stream.specs.declared.Stream.{Stream}

-- a stream of these parts
abbrev pub stream_of : Schedule → (direction count : ℕ) → (chain held : List ℕ) → (closed : Bool) → Stream
stream_of s d n c h b = record { schedule = s; direction = d; count = n; chain = c; held = h; closed = b }

-- a fresh one, from a first block
abbrev pub fresh : Schedule → ℕ → List ℕ → Stream
fresh s d first = stream_of s d 0 first (replicate 15 0) false

-- how many bytes are held
abbrev pub held_number : Stream → ℕ
held_number s = s.count % 16

-- the held bytes, with a piece behind them
abbrev pub at_hand : Stream → List ℕ → List ℕ
at_hand s piece = take (held_number s) s.held ++ piece

-- the schedule is bad, the direction isn't 1 or 2, the count is over the limit, an unused held byte isn't zero, or it is closed with bytes held
unfoldable pub bad_state : Stream → Bool
bad_state s =
    choose (bad s.schedule) true
    (choose (not (is_direction s.direction)) true
    (choose (ltb limit s.count) true
    (choose (not (zeros (drop (held_number s) s.held))) true
    (choose s.closed (not (eqb (held_number s) 0)) false))))

-- what a refused start returns
abbrev pub zero_stream : Stream
zero_stream = fresh zero_schedule 0 (replicate 16 0)
