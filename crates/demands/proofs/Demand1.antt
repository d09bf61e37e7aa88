-- Demand 1, and what 01 says of the calls beside their definitions: the formula for the bytes written, that a refusal changes nothing, that an empty piece is
-- accepted on an open good stream, and that good states stay good.
use mathlib.Core.Path.{◌≡◌, refl, sym, ap, ◌∙◌}
use mathlib.Core.Bool.{Bool, true, false, not}
use mathlib.Core.List.{List, []}
use Prim.Native.Nat.{ℕ, zero, suc, ◌+◌, ◌-◌, ◌*◌, ◌/◌, ◌%◌}
use native.Mathlib.Omega.{arith}
use lib.Dec.{eqb}
use lib.ListN.{length, drop, replicate, length-drop}
use lib.Seq.{drop_at}
use borrow.Author.Tests.{eq-eqb, ne_eqb, le-ltb, eqb-true, eqb-false}
use Rattle.runs.specs.Zeros.{zeros}
use Rattle.runs.proofs.Fill.{zeros-replicate}
use Rattle.refusals.specs.Refusals as refusal
use Rattle.pieces.specs.Pieces.{limit, held15}
use Rattle.stream.specs.State.{held_number, at_hand, bad_state}
use Rattle.stream.specs.Calls.{made, piece_refusal, fed, fed_as, feed, feed_out, closed_stream, finish}
use Rattle.stream.specs.declared.Stream.{Stream}
use Rattle.stream.specs.Numbered.{Fed}
use Rattle.stream.specs.Numbered.{Finished}
use Rattle.pieces.proofs.Hand.{hand_length}
use Rattle.stream.proofs.Outcomes.{good, good_open, closed-held, accepted_piece, finish_refused, finish_accepted}
use Rattle.demands.proofs.Answers.{finish_closed, finish_held, finish_done}

-- ---- a piece, by its refusal
module _ (s : Stream) (p : List ℕ) (room : ℕ) where
  pub piece_done : piece_refusal s (length p) room ≡ refusal.done
      → feed s p room ≡ fed_as refusal.done (16 * ((s.count + length p) / 16 - s.count / 16)) (fed s p)
  unfolding feed
  piece_done e = rw (eq-eqb _ _ e)

  pub piece_not : (k : ℕ) → piece_refusal s (length p) room ≡ suc k → feed s p room ≡ fed_as (suc k) 0 s
  unfolding feed
  piece_not k e =
      let n : piece_refusal s (length p) room ≡ 0 → ⊥ = λ z. omega arith in
      rw (ne_eqb _ _ n, e)

  answer_is : (feed s p room).answer ≡ piece_refusal s (length p) room
  answer_is = go (piece_refusal s (length p) room) refl
    where
      go : (k : ℕ) → piece_refusal s (length p) room ≡ k → (feed s p room).answer ≡ piece_refusal s (length p) room
      go zero e = ap (λ (r : Fed). r.answer) (piece_done e) ∙ sym e
      go (suc k) e = ap (λ (r : Fed). r.answer) (piece_not k e) ∙ sym e

pub refused_changes_nothing : (s : Stream) (p o : List ℕ) → ((feed s p (length o)).answer ≡ refusal.done → ⊥)
    → ((feed s p (length o)).next ≡ s) × ((feed s p (length o)).written ≡ 0) × (feed_out s p o ≡ o)
unfolding feed_out
refused_changes_nothing s p o z = go (piece_refusal s (length p) (length o)) refl
  where
    go : (k : ℕ) → piece_refusal s (length p) (length o) ≡ k
        → ((feed s p (length o)).next ≡ s) × ((feed s p (length o)).written ≡ 0) × (feed_out s p o ≡ o)
    go zero e = absurd (z (answer_is s p (length o) ∙ e))
    go (suc k) e =
        let f = piece_not s p (length o) k e in
        let n : piece_refusal s (length p) (length o) ≡ 0 → ⊥ = λ y. omega arith in
        (ap (λ (r : Fed). r.next) f, ap (λ (r : Fed). r.written) f, rw (ne_eqb _ _ n))

pub empty_accepted : (s : Stream) (room : ℕ) → bad_state s ≡ false → s.closed ≡ false → (feed s [] room).answer ≡ refusal.done
unfolding piece_refusal
empty_accepted s room g u =
    let c = (good s g).count in
    answer_is s [] room ∙ rw (g, u, le-ltb limit (s.count + 0) (omega arith), le-ltb room (16 * made s 0) (omega arith))

-- ---- good states stay good: `long` is what every value of the type has
module _ (s : Stream) (long : length s.held ≡ 15) (g : bad_state s ≡ false) where
  held_left : (p : List ℕ) → zeros (drop ((s.count + length p) % 16) (held15 (drop (16 * made s (length p)) (at_hand s p)))) ≡ true
  held_left p =
      let l = hand_length s.held p (s.count % 16) (omega arith) in
      let r : List ℕ = drop (16 * made s (length p)) (at_hand s p) in
      let e : length r ≡ (s.count + length p) % 16 = length-drop (16 * made s (length p)) (at_hand s p) ∙ omega arith in
      ap zeros (drop_at r (replicate (15 - length r) 0) ((s.count + length p) % 16) e) ∙ zeros-replicate (15 - length r)

  pub feed_keeps_good : (p : List ℕ) (room : ℕ) → bad_state (feed s p room).next ≡ false
  unfolding fed
  feed_keeps_good p room = go (piece_refusal s (length p) room) refl
    where
      go : (k : ℕ) → piece_refusal s (length p) room ≡ k → bad_state (feed s p room).next ≡ false
      go zero e =
          let t = accepted_piece s (length p) room e in
          let h = good s g in
          ap (λ (r : Fed). bad_state r.next) (piece_done s p room e)
          ∙ sym (good_open (fed s p) h.schedule h.direction t.within (held_left p) t.unclosed)
      go (suc k) e = ap (λ (r : Fed). bad_state r.next) (piece_not s p room k e) ∙ g

  pub finish_keeps_good : bad_state (finish s).next ≡ false
  finish_keeps_good = at_closed s.closed (eqb (held_number s) 0) refl refl
    where
      of_next : Finished → Bool
      of_next r = bad_state r.next

      at_closed : (t u : Bool) → s.closed ≡ t → eqb (held_number s) 0 ≡ u → bad_state (finish s).next ≡ false
      at_closed true u e f = sym (ap of_next (finish_refused s _ (finish_closed s g e) (λ z. omega arith))) ∙ g
      at_closed false true e f =
          let h = good s g in
          sym (ap of_next (finish_accepted s _ (finish_done s g e (eqb-true _ _ f)) refl))
          ∙ sym (closed-held (closed_stream s) h.schedule h.direction h.count h.held refl) ∙ ap not f
      at_closed false false e f = sym (ap of_next (finish_refused s _ (finish_held s g e (eqb-false _ _ f)) (λ z. omega arith))) ∙ g
