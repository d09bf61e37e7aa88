-- Demand 3: one stream, cut anywhere. Any list of calls on it, refused ones among them; what was accepted, what was written, and what a single call would have done.
use Rattle.std.specs.Prelude.{◌≡◌, false, true, List, [], ◌∷◌, ◌++◌, ℕ, ◌*◌, ◌/◌, ◌≤◌, eqb, length, take}
use Rattle.laws.specs.Choice.{choose}
use Rattle.cipher.specs.Schedule.{enciphered, deciphered}
use Rattle.cbc.specs.Cbc.{answer}
use Rattle.refusals.specs.Refusals as refusal
use Rattle.stream.specs.Calls.{fed_as, feed, feed_out, finished_as, finish}
use Rattle.stream.specs.declared.Stream.{Stream}

-- a call: a piece with the output that it is given, or a finish
pub data Call : Type 0 where
  piece : List ℕ → List ℕ → Call
  end : Call

-- ---- one call
abbrev pub next : Stream → Call → Stream
next s (piece p o) = (feed s p (length o)).next
next s end = (finish s).next

-- the bytes that it accepts, and those that it writes at the front of the output
abbrev pub accepted : Stream → Call → List ℕ
accepted s (piece p o) = choose (eqb (feed s p (length o)).answer refusal.done) p []
accepted s end = []

abbrev pub written : Stream → Call → List ℕ
written s (piece p o) = take (feed s p (length o)).written (feed_out s p o)
written s end = []

-- ---- all of them
abbrev pub after : Stream → List Call → Stream
after s [] = s
after s (c ∷ cs) = after (next s c) cs

abbrev pub accepted_bytes : Stream → List Call → List ℕ
accepted_bytes s [] = []
accepted_bytes s (c ∷ cs) = accepted s c ++ accepted_bytes (next s c) cs

abbrev pub written_bytes : Stream → List Call → List ℕ
written_bytes s [] = []
written_bytes s (c ∷ cs) = written s c ++ written_bytes (next s c) cs

-- ---- the demand, of a stream s and the calls cs
abbrev whole_bytes : Stream → List Call → ℕ
whole_bytes s cs = 16 * (length (accepted_bytes s cs) / 16)

pub record CutAnywhere (s : Stream) (cs : List Call) : Type 0 where
  -- the bytes written, joined, are the CBC answer over the whole blocks among the accepted bytes
  pub bytes : written_bytes s cs ≡ answer (enciphered s.schedule) (deciphered s.schedule) s.direction s.chain (accepted_bytes s cs)
  -- until it is finished its state is the one that a single call with all those bytes and enough room leaves, and such a call is accepted
  pub once : (after s cs).closed ≡ false → (o : List ℕ) → whole_bytes s cs ≤ length o
      → feed s (accepted_bytes s cs) (length o) ≡ fed_as refusal.done (whole_bytes s cs) (after s cs)
  -- and writes the same bytes
  pub same : (o : List ℕ) → whole_bytes s cs ≤ length o → take (whole_bytes s cs) (feed_out s (accepted_bytes s cs) o) ≡ written_bytes s cs
  -- a finished stream refuses every later piece and a second finish, and its state stands
  pub finished : (after s cs).closed ≡ true
      → ((p o : List ℕ) → feed (after s cs) p (length o) ≡ fed_as refusal.closed 0 (after s cs)) × (finish (after s cs) ≡ finished_as refusal.closed (after s cs))
