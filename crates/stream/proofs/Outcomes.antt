-- The answers of the calls, one law for each outcome, in the order in which the code comes to it.
use mathlib.Core.Path.{◌≡◌, refl}
use mathlib.Core.Bool.{Bool, true, false, not, true≢false}
use mathlib.Core.List.{List}
use Prim.Native.Nat.{ℕ, ◌+◌, ◌*◌, ◌≤◌, ◌<◌}
use native.Mathlib.Omega.{arith}
use lib.Dec.{ltb, eqb}
use lib.ListN.{length, take, drop}
use lib.Seq.{take_all}
use borrow.Author.Tests.{eq-eqb, ne_eqb, lt-ltb, le-ltb, not-false, ltb-false, eqb-true}
use Rattle.laws.specs.Choice.{choose}
use Rattle.runs.specs.Zeros.{zeros}
use Rattle.refusals.specs.Refusals as refusal
use Rattle.refusals.proofs.Clear.{start_clear, piece_clear}
use Rattle.cipher_numbers.specs.Ciphers.{is_direction}
use Rattle.cipher.specs.Schedule.{bad, enciphered, deciphered}
use Rattle.cipher.specs.declared.Schedule.{Schedule}
use Rattle.cbc.specs.Cbc.{Chained}
use Rattle.pieces.specs.Pieces.{limit, held15}
use Rattle.stream.specs.State.{stream_of, fresh, held_number, at_hand, bad_state, zero_stream}
use Rattle.stream.specs.Calls.{start_refusal, started_as, start, made, piece_refusal, fed, fed_as, fed_bytes, feed, feed_out, finish_refusal, closed_stream, finished_as, finish}
use Rattle.stream.specs.declared.Stream.{Stream}

-- ---- a bad state
module _ (s : Stream) where
  pub bad-schedule : bad s.schedule ≡ true → true ≡ bad_state s
  unfolding bad_state
  bad-schedule a = rw a

  pub bad-direction : bad s.schedule ≡ false → is_direction s.direction ≡ false → true ≡ bad_state s
  unfolding bad_state
  bad-direction a b = rw (a, b)

  module _ (a : bad s.schedule ≡ false) (b : is_direction s.direction ≡ true) where
    pub bad_count : limit < s.count → true ≡ bad_state s
    unfolding bad_state
    bad_count h = rw (a, b, lt-ltb _ _ h)

    pub bad_held : s.count ≤ limit → zeros (drop (held_number s) s.held) ≡ false → true ≡ bad_state s
    unfolding bad_state
    bad_held h z = rw (a, b, le-ltb _ _ h, z)

    pub closed-held : s.count ≤ limit → zeros (drop (held_number s) s.held) ≡ true → s.closed ≡ true → not (eqb (held_number s) 0) ≡ bad_state s
    unfolding bad_state
    closed-held h z d = rw (a, b, le-ltb _ _ h, z, d)

    pub good_open : s.count ≤ limit → zeros (drop (held_number s) s.held) ≡ true → s.closed ≡ false → false ≡ bad_state s
    unfolding bad_state
    good_open h z d = rw (a, b, le-ltb _ _ h, z, d)

-- what a state that is not bad tells
pub record Good (s : Stream) : Type 0 where
  pub schedule : bad s.schedule ≡ false
  pub direction : is_direction s.direction ≡ true
  pub count : s.count ≤ limit
  pub held : zeros (drop (held_number s) s.held) ≡ true

pub good : (s : Stream) → bad_state s ≡ false → Good s
unfolding bad_state
good s = at (bad s.schedule) (is_direction s.direction) (ltb limit s.count) (zeros (drop (held_number s) s.held)) refl refl refl refl
  where
    last : Bool
    last = choose s.closed (not (eqb (held_number s) 0)) false

    at : (t u v w : Bool) → bad s.schedule ≡ t → is_direction s.direction ≡ u → ltb limit s.count ≡ v
        → zeros (drop (held_number s) s.held) ≡ w → choose t true (choose (not u) true (choose v true (choose (not w) true last))) ≡ false → Good s
    at true u v w e f g h z = absurd (true≢false z)
    at false false v w e f g h z = absurd (true≢false z)
    at false true true w e f g h z = absurd (true≢false z)
    at false true false false e f g h z = absurd (true≢false z)
    at false true false true e f g h z = record { schedule = e; direction = f; count = ltb-false _ _ g; held = h }

-- ---- a piece
module _ (s : Stream) (n room : ℕ) where
  -- what an accepted piece tells
  pub record AcceptedPiece : Type 0 where
    pub state : bad_state s ≡ false
    pub unclosed : s.closed ≡ false
    pub within : s.count + n ≤ limit
    pub fits : 16 * made s n ≤ room

  pub accepted_piece : piece_refusal s n room ≡ refusal.done → AcceptedPiece
  unfolding piece_refusal
  accepted_piece e =
      let c = piece_clear (bad_state s) s.closed (ltb limit (s.count + n)) (ltb room (16 * made s n)) e in
      record { state = c.0; unclosed = c.1.0; within = ltb-false _ _ c.1.1.0; fits = ltb-false _ _ c.1.1.1.0 }

module _ (s : Stream) (p o : List ℕ) where
  pub piece_refused : (k : ℕ) → k ≡ piece_refusal s (length p) (length o) → (k ≡ refusal.done → ⊥)
      → (fed_as k 0 s ≡ feed s p (length o)) × (o ≡ feed_out s p o)
  unfolding feed feed_out
  piece_refused k e z = rw (← e, ne_eqb _ _ z) (refl, refl)

  module _ (n : ℕ) (ok : piece_refusal s (length p) (length o) ≡ refusal.done) (hn : n ≡ made s (length p)) where
    pub piece_fed : (last held o' : List ℕ) → Chained (enciphered s.schedule) (deciphered s.schedule) s.direction s.chain (at_hand s p) o n last o'
        → held ≡ held15 (drop (16 * n) (at_hand s p))
        → fed_as refusal.done (16 * n) (stream_of s.schedule s.direction (s.count + length p) last held s.closed) ≡ feed s p (length o)
    unfolding feed fed
    piece_fed last held o' r h = rw (r.last_is, h, hn, eq-eqb _ _ ok)

    pub piece_put : (last o' : List ℕ) → Chained (enciphered s.schedule) (deciphered s.schedule) s.direction s.chain (at_hand s p) o n last o'
        → o' ≡ feed_out s p o
    unfolding feed_out fed_bytes
    piece_put last o' r = rw (r.out_is, hn, eq-eqb _ _ ok)

-- ---- finish
module _ (s : Stream) where
  pub finish_refused : (k : ℕ) → k ≡ finish_refusal s → (k ≡ refusal.done → ⊥) → finished_as k s ≡ finish s
  unfolding finish
  finish_refused k e z = rw (← e, ne_eqb _ _ z)

  pub finish_accepted : (k : ℕ) → k ≡ finish_refusal s → k ≡ refusal.done → finished_as k (closed_stream s) ≡ finish s
  unfolding finish
  finish_accepted k e z = rw (← e, z)

-- ---- start
module _ (s : Schedule) (d : ℕ) (first : List ℕ) where
  pub start_refused : (k : ℕ) → k ≡ start_refusal s d (length first) → (k ≡ refusal.done → ⊥) → started_as k zero_stream ≡ start s d first
  unfolding start
  start_refused k e z = rw (← e, ne_eqb _ _ z)

  -- what an accepted start tells
  pub record AcceptedStart : Type 0 where
    pub directed : is_direction d ≡ true
    pub whole : length first ≡ 16

  pub accepted_start : start_refusal s d (length first) ≡ refusal.done → AcceptedStart
  unfolding start_refusal
  accepted_start e =
      let c = start_clear (bad s) (not (is_direction d)) (not (eqb (length first) 16)) e in
      record { directed = not-false _ c.1.0; whole = eqb-true _ _ (not-false _ c.1.1.0) }

  -- the stream that the code makes of a direction and a first block
  pub start-done : start_refusal s d (length first) ≡ refusal.done → (d' : ℕ) (c : List ℕ) → d' ≡ d → c ≡ take 16 (drop 0 first)
      → started_as refusal.done (fresh s d' c) ≡ start s d first
  unfolding start
  start-done ok d' c e f =
      let w = (accepted_start ok).whole in
      rw (e, f, take_all 16 first (omega arith), eq-eqb _ _ ok)

pub direction_small : (d : ℕ) → is_direction d ≡ true → d ≤ 2
unfolding is_direction
direction_small d = at (eqb d 1) refl
  where
    at : (t : Bool) → eqb d 1 ≡ t → choose t true (eqb d 2) ≡ true → d ≤ 2
    at true e h = let q = eqb-true d 1 e in omega arith
    at false e h = let q = eqb-true d 2 h in omega arith
