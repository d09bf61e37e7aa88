-- Demand 3 across any number of stops: 02, request 5. Any list of calls on a stream, among which it is laid down and taken up anywhere; what the caller has
-- then, what was accepted and written, and that all of it is as without the stops.
use Rattle.std.specs.Prelude.{◌≡◌, List, [], ◌∷◌, ◌++◌, ℕ, eqb, length, take}
use Rattle.laws.specs.Choice.{choose}
use Rattle.cbc.specs.Cbc.{answer}
use Rattle.cipher.specs.Schedule.{enciphered, deciphered}
use Rattle.cipher.specs.declared.Schedule.{Schedule}
use Rattle.refusals.specs.Refusals as refusal
use Rattle.stream.specs.Calls.{feed, finish}
use Rattle.stream.specs.declared.Stream.{Stream}
use Rattle.stream.specs.Numbered.{Started}
use Rattle.demands.specs.Demand3.{Call, next, accepted, written, after, accepted_bytes, written_bytes, CutAnywhere}
use Rattle.demands.specs.Demand3.Call.{piece, end}
use Rattle.stream_layout.specs.Layout.{record_length}
use Rattle.stream_record.specs.Calls.{lay_down_refusal, lay_down_out, take_up}

-- a step: a call on the stream, a lay-down to the output that it is given, a take-up of the record that was laid down last, with the stream's schedule,
-- or a take-up of any other bytes, with any schedule, that is refused
pub data Step : Type 0 where
  call : Call → Step
  lay : List ℕ → Step
  take_up_kept : Step
  miss : (k : Schedule) (r : List ℕ) → ((take_up k r).answer ≡ refusal.done → ⊥) → Step

-- what the caller has: the stream, and the record that he laid down last; no bytes, if there is none, or if a call was done since, for then the record is of
-- a stream that he no longer has
pub record Caller : Type 0 where
  pub stream : Stream
  pub kept : List ℕ

abbrev pub has : Stream → List ℕ → Caller
has s r = record { stream = s; kept = r }

-- ---- one step; a refused one leaves him what he had
-- what a call answers
abbrev pub answered : Stream → Call → ℕ
answered s (piece p o) = (feed s p (length o)).answer
answered s end = (finish s).answer

-- the stream that he has behind a take-up
abbrev pub taken : Stream → Started → Stream
taken s t = choose (eqb t.answer refusal.done) t.stream s

abbrev pub step : Caller → Step → Caller
step c (call k) = has (next c.stream k) (choose (eqb (answered c.stream k) refusal.done) [] c.kept)
step c (lay o) =
    has c.stream (choose (eqb (lay_down_refusal c.stream (length o)) refusal.done) (take record_length (lay_down_out c.stream o)) c.kept)
step c take_up_kept = has (taken c.stream (take_up c.stream.schedule c.kept)) c.kept
step c (miss k r z) = has (taken c.stream (take_up k r)) c.kept

-- ---- all of them
abbrev pub behind : Caller → List Step → Caller
behind c [] = c
behind c (x ∷ xs) = behind (step c x) xs

-- the bytes that a step accepts of the message, and those that it writes of the answer
abbrev pub accepted_by : Caller → Step → List ℕ
accepted_by c (call k) = accepted c.stream k
accepted_by c (lay o) = []
accepted_by c take_up_kept = []
accepted_by c (miss k r z) = []

abbrev pub written_by : Caller → Step → List ℕ
written_by c (call k) = written c.stream k
written_by c (lay o) = []
written_by c take_up_kept = []
written_by c (miss k r z) = []

abbrev pub all_accepted : Caller → List Step → List ℕ
all_accepted c [] = []
all_accepted c (x ∷ xs) = accepted_by c x ++ all_accepted (step c x) xs

abbrev pub all_written : Caller → List Step → List ℕ
all_written c [] = []
all_written c (x ∷ xs) = written_by c x ++ all_written (step c x) xs

-- ---- without the stops
abbrev pub calls : List Step → List Call
calls [] = []
calls (call k ∷ xs) = k ∷ calls xs
calls (lay o ∷ xs) = calls xs
calls (take_up_kept ∷ xs) = calls xs
calls (miss k r z ∷ xs) = calls xs

-- the demand, of a stream s and the steps xs
pub record AcrossStops (s : Stream) (xs : List Step) : Type 0 where
  -- bytes and state are those of the calls without the stops
  pub state : (behind (has s []) xs).stream ≡ after s (calls xs)
  pub taken_in : all_accepted (has s []) xs ≡ accepted_bytes s (calls xs)
  pub given_out : all_written (has s []) xs ≡ written_bytes s (calls xs)
  -- of which demand 3 holds
  pub cut : CutAnywhere s (calls xs)
  -- so the bytes written, joined, are the CBC answer over the whole blocks among the accepted bytes
  pub bytes : all_written (has s []) xs
      ≡ answer (enciphered s.schedule) (deciphered s.schedule) s.direction s.chain (all_accepted (has s []) xs)
