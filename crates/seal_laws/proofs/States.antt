-- What 02 says of a seal's state: how many bytes are held, that an empty piece changes nothing, and that good states stay good, whether they are closed or not.
use mathlib.Core.Path.{◌≡◌, refl, sym, ap, ◌∙◌}
use mathlib.Core.Bool.{Bool, true, false}
use mathlib.Core.List.{List, [], ◌++◌, append-nil}
use Prim.Native.Nat.{ℕ, zero, suc, ◌+◌, ◌-◌, ◌*◌, ◌%◌, ◌≤◌, ◌<◌}
use native.Mathlib.Omega.{arith}
use lib.Dec.{eqb, ltb}
use lib.ListN.{length, drop, replicate, take-append-drop, length-drop}
use lib.Seq.{length-take-le, drop_at}
use borrow.Author.Tests.{ltb-true, ltb-false}
use Rattle.laws.specs.Choice.{choose}
use Rattle.runs.specs.Zeros.{zeros}
use Rattle.runs.specs.Same.{same}
use Rattle.runs.proofs.Fill.{zeros_are, zeros-replicate}
use Rattle.refusals.specs.Refusals as refusal
use Rattle.cbc.specs.Cbc.{blocks}
use Rattle.cmac.specs.Cmac.{final_length, chained}
use Rattle.cmac.proofs.Cut.{earlier_is, final_most, pushed_none}
use Rattle.pieces.specs.Pieces.{limit, held_in}
use Rattle.pieces.proofs.Hand.{hand_length}
use Rattle.cipher.specs.Schedule.{enciphered}
use Rattle.seal.specs.State.{seal_of, held_number, held_bytes, at_hand, bad_state}
use Rattle.seal.specs.Calls.{made, piece_refusal, fed, fed_as, feed, sealed, closed_seal, write_refusal, write, check_refusal, check, written_as, checked_as}
use Rattle.seal.specs.declared.Seal.{Seal}
use Rattle.seal.specs.Numbered.{Fed}
use Rattle.seal.proofs.Outcomes.{Good, good, good_long, by_chain, accepted_piece}
use Rattle.seal_laws.proofs.Answers.{piece_done, piece_not, piece_accepted}

-- ---- how many bytes are held
pub none_held : final_length 0 ≡ 0
none_held = let e = earlier_is 0 in omega arith

pub some_held : (n : ℕ) → 0 < n → (1 ≤ final_length n) × (final_length n ≤ 16) × ((n - final_length n) % 16 ≡ 0)
some_held n h = let e = earlier_is n in (omega arith, omega arith, omega arith)

-- ---- a good state, from its parts
pub good_by : (s : Seal) → Good s → bad_state s ≡ false
good_by s g = go (ltb 16 s.count) refl
  where
    go : (t : Bool) → ltb 16 s.count ≡ t → bad_state s ≡ false
    go true e = sym (good_long s g.schedule g.count (held_number s) refl g.held (ltb-true _ _ e))
    go false e = sym (by_chain s g.schedule g.count (held_number s) refl g.held (ltb-false _ _ e) true (sym (g.chain (ltb-false _ _ e))))

-- whether it is closed does not matter
pub closed_alike : (s : Seal) → bad_state (closed_seal s) ≡ bad_state s
unfolding bad_state
closed_alike s = refl

-- ---- of a good state; `long` is what every value of the type has
module _ (s : Seal) (long : length s.held ≡ 16) (g : bad_state s ≡ false) where
  fits : held_number s ≤ length s.held
  fits = let m = final_most s.count in omega arith

  -- an empty piece changes nothing: it pushes no block out, not even a full one
  held_again : held_in 16 (held_bytes s) ≡ s.held
  held_again =
      let t : length (held_bytes s) ≡ held_number s = length-take-le (held_number s) s.held fits in
      let d : 16 - length (held_bytes s) ≡ length (drop (held_number s) s.held) = sym (length-drop (held_number s) s.held ∙ omega arith) in
      ap (λ (r : List ℕ). held_bytes s ++ r) (ap (λ (k : ℕ). replicate k 0) d ∙ sym (zeros_are (drop (held_number s) s.held) (good s g).held))
      ∙ take-append-drop (held_number s) s.held

  empty_fed : fed s [] ≡ s
  unfolding fed
  empty_fed =
      let m : made s 0 ≡ 0 = pushed_none s.count in
      let h : at_hand s [] ≡ held_bytes s = append-nil (held_bytes s) in
      let n : s.count + 0 ≡ s.count = omega arith in
      (λ i. seal_of s.schedule (n i) (chained (enciphered s.schedule) s.chain (blocks (m i) (h i))) (held_in 16 (drop (16 * m i) (h i))) s.closed)
      ∙ (λ i. seal_of s.schedule s.count s.chain (held_again i) s.closed)

  pub empty_piece : s.closed ≡ false → feed s [] ≡ fed_as refusal.done s
  empty_piece u =
      let c = (good s g).count in
      piece_done s [] (piece_accepted s g 0 u (omega arith)) ∙ ap (fed_as refusal.done) empty_fed

  -- good states stay good
  fed_good : (p : List ℕ) → s.count + length p ≤ limit → Good (fed s p)
  unfolding fed
  fed_good p w =
      let before = earlier_is s.count in
      let both = earlier_is (s.count + length p) in
      let l = hand_length s.held p (held_number s) fits in
      let r : List ℕ = drop (16 * made s (length p)) (at_hand s p) in
      let e : length r ≡ final_length (s.count + length p) = length-drop (16 * made s (length p)) (at_hand s p) ∙ omega arith in
      record {
        schedule = (good s g).schedule;
        count = w;
        held = ap zeros (drop_at r (replicate (16 - length r) 0) (final_length (s.count + length p)) e) ∙ zeros-replicate (16 - length r);
        chain = λ h.
            let m : made s (length p) ≡ 0 = omega arith in
            ap (λ (k : ℕ). zeros (chained (enciphered s.schedule) s.chain (blocks k (at_hand s p)))) m ∙ (good s g).chain (omega arith);
      }

  pub feed_keeps_good : (p : List ℕ) → bad_state (feed s p).next ≡ false
  feed_keeps_good p = go (piece_refusal s (length p)) refl
    where
      go : (k : ℕ) → piece_refusal s (length p) ≡ k → bad_state (feed s p).next ≡ false
      go zero e = ap (λ (r : Fed). bad_state r.next) (piece_done s p e) ∙ good_by (fed s p) (fed_good p (accepted_piece s (length p) e).within)
      go (suc k) e = ap (λ (r : Fed). bad_state r.next) (piece_not s p k e) ∙ g

  pub write_keeps_good : (room : ℕ) → bad_state (write s room).next ≡ false
  unfolding write
  write_keeps_good room = go (eqb (write_refusal s room) refusal.done)
    where
      go : (t : Bool) → bad_state (choose t (written_as refusal.done (closed_seal s)) (written_as (write_refusal s room) s)).next ≡ false
      go true = closed_alike s ∙ g
      go false = g

  pub check_keeps_good : (x : List ℕ) → bad_state (check s x).next ≡ false
  unfolding check
  check_keeps_good x = go (eqb (check_refusal s) refusal.done)
    where
      go : (t : Bool) → bad_state (choose t (checked_as refusal.done (same x (sealed s)) (closed_seal s)) (checked_as (check_refusal s) false s)).next ≡ false
      go true = closed_alike s ∙ g
      go false = g
