-- The answers of the calls, one law for each outcome, in the order in which the code comes to it.
use mathlib.Core.Path.{◌≡◌, refl, sym, ap, ◌∙◌}
use mathlib.Core.Bool.{Bool, true, false, not, true≢false}
use mathlib.Core.List.{List, ◌++◌}
use Prim.Native.Nat.{ℕ, ◌+◌, ◌*◌, ◌≤◌, ◌<◌}
use lib.Dec.{ltb}
use lib.ListN.{length, drop}
use borrow.Author.Tests.{eq-eqb, ne_eqb, lt-ltb, le-ltb, ltb-false}
use Rattle.laws.specs.Choice.{choose}
use Rattle.runs.specs.Zeros.{zeros}
use Rattle.runs.specs.Same.{same}
use Rattle.refusals.specs.Refusals as refusal
use Rattle.refusals.proofs.Clear.{seal_piece_clear, seal_write_clear, seal_check_clear}
use Rattle.cbc.specs.Cbc.{blocks}
use Rattle.cmac.specs.Cmac.{chained}
use Rattle.pieces.specs.Pieces.{limit, held_in}
use Rattle.cipher.specs.Schedule.{bad, enciphered}
use Rattle.cipher.specs.declared.Schedule.{Schedule}
use Rattle.seal.specs.State.{seal_of, fresh, held_number, at_hand, bad_state, zero_seal}
use Rattle.seal.specs.Calls.{start_refusal, started_as, start, piece_refusal, made, fed, fed_as, feed, sealed, closed_seal, write_refusal, written_as, write, write_out, check_refusal, checked_as, check}
use Rattle.seal.specs.declared.Seal.{Seal}

-- ---- a bad state
module _ (s : Seal) where
  pub bad-schedule : bad s.schedule ≡ true → true ≡ bad_state s
  unfolding bad_state
  bad-schedule a = rw a

  module _ (a : bad s.schedule ≡ false) where
    pub bad_count : limit < s.count → true ≡ bad_state s
    unfolding bad_state
    bad_count h = rw (a, lt-ltb _ _ h)

    module _ (h : s.count ≤ limit) (k : ℕ) (e : k ≡ held_number s) where
      pub bad_held : zeros (drop k s.held) ≡ false → true ≡ bad_state s
      unfolding bad_state
      bad_held z = rw (a, le-ltb _ _ h, ← e, z)

      pub good_long : zeros (drop k s.held) ≡ true → 16 < s.count → false ≡ bad_state s
      unfolding bad_state
      good_long z l = rw (a, le-ltb _ _ h, ← e, z, lt-ltb _ _ l)

      pub by_chain : zeros (drop k s.held) ≡ true → s.count ≤ 16 → (t : Bool) → t ≡ zeros s.chain → not t ≡ bad_state s
      unfolding bad_state
      by_chain z l t f = rw (a, le-ltb _ _ h, ← e, z, le-ltb _ _ l, f)

-- what a state that is not bad tells
pub record Good (s : Seal) : Type 0 where
  pub schedule : bad s.schedule ≡ false
  pub count : s.count ≤ limit
  pub held : zeros (drop (held_number s) s.held) ≡ true
  pub chain : s.count ≤ 16 → zeros s.chain ≡ true

pub good : (s : Seal) → bad_state s ≡ false → Good s
unfolding bad_state
good s = at (bad s.schedule) (ltb limit s.count) (zeros (drop (held_number s) s.held)) refl refl refl
  where
    last : Bool
    last = choose (ltb 16 s.count) false (not (zeros s.chain))

    at_chain : (t u : Bool) → ltb 16 s.count ≡ t → zeros s.chain ≡ u → choose t false (not u) ≡ false → s.count ≤ 16 → zeros s.chain ≡ true
    at_chain true u e f h l = absurd (true≢false (sym e ∙ le-ltb _ _ l))
    at_chain false true e f h l = f
    at_chain false false e f h l = absurd (true≢false h)

    at : (t u v : Bool) → bad s.schedule ≡ t → ltb limit s.count ≡ u → zeros (drop (held_number s) s.held) ≡ v
        → choose t true (choose u true (choose (not v) true last)) ≡ false → Good s
    at true u v e f g h = absurd (true≢false h)
    at false true v e f g h = absurd (true≢false h)
    at false false false e f g h = absurd (true≢false h)
    at false false true e f g h =
        record { schedule = e; count = ltb-false _ _ f; held = g; chain = at_chain (ltb 16 s.count) (zeros s.chain) refl refl h }

-- ---- start
module _ (s : Schedule) where
  pub start_refused : (k : ℕ) → k ≡ start_refusal s → (k ≡ refusal.done → ⊥) → started_as k zero_seal ≡ start s
  unfolding start
  start_refused k e z = rw (← e, ne_eqb _ _ z)

  pub start-done : start_refusal s ≡ refusal.done → started_as refusal.done (fresh s) ≡ start s
  unfolding start
  start-done ok = rw (eq-eqb _ _ ok)

-- ---- a piece
module _ (s : Seal) (n : ℕ) where
  -- what an accepted piece tells
  pub record AcceptedPiece : Type 0 where
    pub state : bad_state s ≡ false
    pub unclosed : s.closed ≡ false
    pub within : s.count + n ≤ limit

  pub accepted_piece : piece_refusal s n ≡ refusal.done → AcceptedPiece
  unfolding piece_refusal
  accepted_piece e =
      let c = seal_piece_clear (bad_state s) s.closed (ltb limit (s.count + n)) e in
      record { state = c.0; unclosed = c.1.0; within = ltb-false _ _ c.1.1.0 }

module _ (s : Seal) (p : List ℕ) where
  pub piece_refused : (k : ℕ) → k ≡ piece_refusal s (length p) → (k ≡ refusal.done → ⊥) → fed_as k s ≡ feed s p
  unfolding feed
  piece_refused k e z = rw (← e, ne_eqb _ _ z)

  pub piece_fed : piece_refusal s (length p) ≡ refusal.done → (n : ℕ) → n ≡ made s (length p) → (last held : List ℕ)
      → last ≡ chained (enciphered s.schedule) s.chain (blocks n (at_hand s p)) → held ≡ held_in 16 (drop (16 * n) (at_hand s p))
      → fed_as refusal.done (seal_of s.schedule (s.count + length p) last held s.closed) ≡ feed s p
  unfolding feed fed
  piece_fed ok n hn last held hc hh = rw (hc, hh, hn, eq-eqb _ _ ok)

-- ---- writing the seal
module _ (s : Seal) (o : List ℕ) where
  -- what an accepted writing tells
  pub record AcceptedWriting : Type 0 where
    pub state : bad_state s ≡ false
    pub fits : 16 ≤ length o

  pub accepted_writing : write_refusal s (length o) ≡ refusal.done → AcceptedWriting
  unfolding write_refusal
  accepted_writing e =
      let c = seal_write_clear (bad_state s) s.closed (ltb (length o) 16) e in
      record { state = c.0; fits = ltb-false _ _ c.1.1.0 }

  pub write_refused : (k : ℕ) → k ≡ write_refusal s (length o) → (k ≡ refusal.done → ⊥)
      → (written_as k s ≡ write s (length o)) × (o ≡ write_out s o)
  unfolding write write_out
  write_refused k e z = rw (← e, ne_eqb _ _ z) (refl, refl)

  module _ (ok : write_refusal s (length o) ≡ refusal.done) where
    pub write_done : written_as refusal.done (closed_seal s) ≡ write s (length o)
    unfolding write
    write_done = rw (eq-eqb _ _ ok)

    pub write_put : (t o' : List ℕ) → t ≡ sealed s → o' ≡ t ++ drop 16 o → o' ≡ write_out s o
    unfolding write_out
    write_put t o' e f = f ∙ ap (λ (l : List ℕ). l ++ drop 16 o) e ∙ rw (eq-eqb _ _ ok)

-- ---- checking one
module _ (s : Seal) (g : List ℕ) where
  pub accepted_check : check_refusal s ≡ refusal.done → bad_state s ≡ false
  unfolding check_refusal
  accepted_check e = (seal_check_clear (bad_state s) s.closed e).0

  pub check_refused : (k : ℕ) → k ≡ check_refusal s → (k ≡ refusal.done → ⊥) → checked_as k false s ≡ check s g
  unfolding check
  check_refused k e z = rw (← e, ne_eqb _ _ z)

  pub check_done : check_refusal s ≡ refusal.done → (t : List ℕ) (y : Bool) → t ≡ sealed s → y ≡ same g t
      → checked_as refusal.done y (closed_seal s) ≡ check s g
  unfolding check
  check_done ok t y e f = rw (f, e, eq-eqb _ _ ok)
