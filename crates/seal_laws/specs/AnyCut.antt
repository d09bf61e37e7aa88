-- One seal, cut anywhere, as demand 3 has it of a stream (02, request 3). Any list of calls on it, refused ones among them, and what was accepted.
use Rattle.std.specs.Prelude.{◌≡◌, false, true, List, [], ◌∷◌, ◌++◌, ℕ, ◌≤◌, eqb, length, drop}
use Rattle.laws.specs.Choice.{choose}
use Rattle.runs.specs.Same.{same}
use Rattle.refusals.specs.Refusals as refusal
use Rattle.cmac.specs.Cmac.{cmac}
use Rattle.cipher.specs.Schedule.{enciphered}
use Rattle.seal.specs.Calls.{fed_as, feed, closed_seal, written_as, write, write_out, checked_as, check}
use Rattle.seal.specs.declared.Seal.{Seal}

-- a call: a piece, a writing to the output that it is given, or a check of given bytes
pub data Call : Type 0 where
  piece : List ℕ → Call
  writing : List ℕ → Call
  checking : List ℕ → Call

-- ---- one call
abbrev pub next : Seal → Call → Seal
next s (piece p) = (feed s p).next
next s (writing o) = (write s (length o)).next
next s (checking g) = (check s g).next

-- the bytes that it accepts
abbrev pub accepted : Seal → Call → List ℕ
accepted s (piece p) = choose (eqb (feed s p).answer refusal.done) p []
accepted s (writing o) = []
accepted s (checking g) = []

-- ---- all of them
abbrev pub after : Seal → List Call → Seal
after s [] = s
after s (c ∷ cs) = after (next s c) cs

abbrev pub accepted_bytes : Seal → List Call → List ℕ
accepted_bytes s [] = []
accepted_bytes s (c ∷ cs) = accepted s c ++ accepted_bytes (next s c) cs

-- ---- the demand, of a seal s and the calls cs
-- the CMAC of the accepted bytes, joined
abbrev pub the_seal : Seal → List Call → List ℕ
the_seal s cs = cmac (enciphered s.schedule) (accepted_bytes s cs)

pub record CutAnywhere (s : Seal) (cs : List Call) : Type 0 where
  -- until it is closed its state is the one that a single call with all those bytes leaves, and such a call is accepted
  pub once : (after s cs).closed ≡ false → feed s (accepted_bytes s cs) ≡ fed_as refusal.done (after s cs)
  -- and the seal written, where there is room, is the CMAC of the accepted bytes
  pub written : (after s cs).closed ≡ false → (o : List ℕ) → 16 ≤ length o
      → (write (after s cs) (length o) ≡ written_as refusal.done (closed_seal (after s cs))) × (write_out (after s cs) o ≡ the_seal s cs ++ drop 16 o)
  -- and a check says yes to that and to nothing else
  pub checked : (after s cs).closed ≡ false → (g : List ℕ)
      → check (after s cs) g ≡ checked_as refusal.done (same g (the_seal s cs)) (closed_seal (after s cs))
  -- a closed seal refuses every call, and its state stands
  pub ended : (after s cs).closed ≡ true
      → ((p : List ℕ) → feed (after s cs) p ≡ fed_as refusal.closed (after s cs))
      × ((o : List ℕ) → (write (after s cs) (length o) ≡ written_as refusal.closed (after s cs)) × (write_out (after s cs) o ≡ o))
      × ((g : List ℕ) → check (after s cs) g ≡ checked_as refusal.closed false (after s cs))
