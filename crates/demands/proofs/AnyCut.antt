-- Demand 3 of every stream that start hands out, for every cipher, with nothing assumed but that start accepted. And what one stream enciphers another
-- deciphers, however both are cut, and the reverse.
use mathlib.Core.Path.{◌≡◌, refl, sym, ap, ◌∙◌, subst}
use mathlib.Core.Bool.{Bool, true, false, not}
use mathlib.Core.List.{List}
use Prim.Native.Nat.{ℕ, ◌*◌, ◌/◌}
use native.Mathlib.Omega.{arith}
use lib.Dec.{eqb}
use lib.ListN.{length, take}
use borrow.Author.Tests.{eqb-true}
use Rattle.laws.specs.Choice.{choose}
use Rattle.laws.specs.Bytes.{Bytes}
use Rattle.laws.proofs.Words.{Words}
use Rattle.refusals.specs.Refusals as refusal
use Rattle.cipher_numbers.specs.Ciphers.{is_direction}
use Rattle.cipher.specs.Schedule.{bad, enciphered, deciphered}
use Rattle.cipher.specs.declared.Schedule.{Schedule}
use Rattle.demands.proofs.Undo.{block_inverse, enciphered_long}
use Rattle.cbc.specs.Cbc.{answer}
use Rattle.cbc.proofs.Parts.{chain_none}
use Rattle.cbc.proofs.Undo.{message_undo, message_redo}
use Rattle.stream.specs.State.{fresh, zero_stream}
use Rattle.stream.specs.Calls.{start_refusal, started_as, start}
use Rattle.demands.specs.Demand3.{Call, accepted_bytes, written_bytes, CutAnywhere}
use Rattle.stream.specs.declared.Stream.{Stream}
use Rattle.stream.specs.Numbered.{Started}
use Rattle.demands.proofs.Demand3.{demand3_at}

module _ (s : Schedule) (d : ℕ) (first : List ℕ) where
  -- what an accepted start tells
  pub record AcceptedStart : Type 0 where
    pub schedule : bad s ≡ false
    pub direction : is_direction d ≡ true
    pub block : length first ≡ 16
    pub stream : (start s d first).stream ≡ fresh s d first

  pub accepted_start : (start s d first).answer ≡ refusal.done → AcceptedStart
  unfolding start start_refusal
  accepted_start = at (bad s) (is_direction d) (eqb (length first) 16) refl refl refl
    where
      answered : ℕ → Started
      answered n = choose (eqb n refusal.done) (started_as refusal.done (fresh s d first)) (started_as n zero_stream)

      at : (t u v : Bool) → bad s ≡ t → is_direction d ≡ u → eqb (length first) 16 ≡ v
          → (answered (refusal.start_order t (not u) (not v))).answer ≡ refusal.done → AcceptedStart
      at true u v e f g h = absurd (omega arith)
      at false false v e f g h = absurd (omega arith)
      at false true false e f g h = absurd (omega arith)
      at false true true e f g h = record { schedule = e; direction = f; block = eqb-true _ _ g; stream = rw (e, f, g) }

  pub demand3 : (start s d first).answer ≡ refusal.done → (cs : List Call) → CutAnywhere (start s d first).stream cs
  demand3 h cs =
      let a = accepted_start h in
      subst (λ (u : Stream). CutAnywhere u cs) (ap (λ (c : List ℕ). opened c) (chain_none (enciphered s) (deciphered s) d first) ∙ sym a.stream)
      (demand3_at s d first a.schedule a.direction (enciphered_long s a.schedule) cs)
    where
      opened : List ℕ → Stream
      opened c = fresh s d c

  -- the bytes written, by the first block and the direction that the stream was started with
  pub written_is : (start s d first).answer ≡ refusal.done → (cs : List Call)
      → written_bytes (start s d first).stream cs ≡ answer (enciphered s) (deciphered s) d first (accepted_bytes (start s d first).stream cs)
  written_is h cs =
      let a = accepted_start h in
      (demand3 h cs).bytes
      ∙ ap (λ (u : Stream). answer (enciphered u.schedule) (deciphered u.schedule) u.direction u.chain (accepted_bytes (start s d first).stream cs)) a.stream

-- ---- two streams, one enciphering and one deciphering. `keys`, `block` and the bytes fed are what every value of their types has: bytes below 256
module _ (s : Schedule) (first : List ℕ) (keys : Bytes 288 s.round_keys) (block : Bytes 16 first)
    (h₁ : (start s 1 first).answer ≡ refusal.done) (h₂ : (start s 2 first).answer ≡ refusal.done) (cs ds : List Call) where
  abbrev forth : Stream
  forth = (start s 1 first).stream

  abbrev back : Stream
  back = (start s 2 first).stream

  -- the second stream is fed what the first wrote: it writes the whole blocks that the first was fed
  pub round_trip : Words 8 (accepted_bytes forth cs) → accepted_bytes back ds ≡ written_bytes forth cs
      → written_bytes back ds ≡ take (16 * (length (accepted_bytes forth cs) / 16)) (accepted_bytes forth cs)
  round_trip w e =
      written_is s 2 first h₂ ds
      ∙ ap (answer (enciphered s) (deciphered s) 2 first) (e ∙ written_is s 1 first h₁ cs)
      ∙ message_undo (enciphered s) (deciphered s) (block_inverse s (accepted_start s 1 first h₁).schedule keys) first (accepted_bytes forth cs) block w

  pub round_trip_back : Words 8 (accepted_bytes back ds) → accepted_bytes forth cs ≡ written_bytes back ds
      → written_bytes forth cs ≡ take (16 * (length (accepted_bytes back ds) / 16)) (accepted_bytes back ds)
  round_trip_back w e =
      written_is s 1 first h₁ cs
      ∙ ap (answer (enciphered s) (deciphered s) 1 first) (e ∙ written_is s 2 first h₂ ds)
      ∙ message_redo (enciphered s) (deciphered s) (block_inverse s (accepted_start s 1 first h₁).schedule keys) first (accepted_bytes back ds) block w
