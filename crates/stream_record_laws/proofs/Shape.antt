-- A chain block has 16 bytes and there are 15 places for held ones, whatever is done to a stream.
use mathlib.Core.Path.{◌≡◌, refl, sym, ap, ◌∙◌, subst}
use mathlib.Core.Bool.{Bool, true, false}
use mathlib.Core.List.{List, [], ◌∷◌}
use Prim.Native.Nat.{ℕ, zero, suc, ◌+◌, ◌-◌, ◌*◌, ◌%◌, ◌≤◌}
use native.Mathlib.Omega.{arith}
use lib.Dec.{eqb}
use lib.ListN.{length, drop, replicate, length-append, length-drop, length-replicate}
use lib.Seq.{length-take-le}
use Rattle.laws.specs.Choice.{choose}
use Rattle.laws.specs.Bytes.{xor_l}
use Rattle.refusals.specs.Refusals as refusal
use Rattle.cbc.specs.Cbc.{cbc_encryption, last_or, chain, blocks}
use Rattle.cbc.proofs.Sized.{Sized}
use Rattle.pieces.specs.Pieces.{held15}
use Rattle.pieces.proofs.Hand.{hand_length}
use Rattle.cipher.specs.Schedule.{enciphered}
use Rattle.stream.specs.State.{at_hand, bad_state}
use Rattle.stream.specs.Calls.{made, piece_refusal, fed, feed, closed_stream, finish_refusal, finished_as, finish}
use Rattle.stream.specs.declared.Stream.{Stream}
use Rattle.stream.specs.Numbered.{Fed}
use Rattle.stream.proofs.Outcomes.{good}
use Rattle.demands.specs.Demand3.{Call, next}
use Rattle.demands.specs.Demand3.Call.{piece, end}
use Rattle.demands.proofs.Undo.{enciphered_long}
use Rattle.demands.proofs.Demand1.{piece_done, piece_not, feed_keeps_good, finish_keeps_good}
use Rattle.stream_record_laws.proofs.TakenUp.{Shaped}

-- ---- the chain block
abbrev Long : List (List ℕ) → Type 0
Long [] = Unit {0}
Long (b ∷ bs) = (length b ≡ 16) × Long bs

last_long : (c : List ℕ) (bs : List (List ℕ)) → length c ≡ 16 → Long bs → length (last_or c bs) ≡ 16
last_long c [] l h = l
last_long c (b ∷ bs) l h = last_long b bs h.0 h.1

encrypted_long : (E : List ℕ → List ℕ) → Sized E → (c : List ℕ) (bs : List (List ℕ)) → Long (cbc_encryption E c bs)
encrypted_long E sized c [] = tt
encrypted_long E sized c (b ∷ bs) = (sized (xor_l 16 b c), encrypted_long E sized (E (xor_l 16 b c)) bs)

blocks_long : (n : ℕ) (w : List ℕ) → 16 * n ≤ length w → Long (blocks n w)
blocks_long zero w h = tt
blocks_long (suc n) w h =
    let d = length-drop 16 w in
    (length-take-le 16 w (omega arith), blocks_long n (drop 16 w) (omega arith))

chain_long : (E : List ℕ → List ℕ) → Sized E → (d : ℕ) (c : List ℕ) (bs : List (List ℕ)) → length c ≡ 16 → Long bs → length (chain E d c bs) ≡ 16
unfolding chain
chain_long E sized d c bs l h = go (eqb d 1)
  where
    go : (t : Bool) → length (choose t (last_or c (cbc_encryption E c bs)) (last_or c bs)) ≡ 16
    go true = last_long c (cbc_encryption E c bs) l (encrypted_long E sized c bs)
    go false = last_long c bs l h

-- ---- the held bytes
held_long : (l : List ℕ) → length l ≤ 15 → length (held15 l) ≡ 15
held_long l h =
    length-append l (replicate (15 - length l) 0) ∙ ap (λ (n : ℕ). length l + n) (length-replicate (15 - length l) 0) ∙ omega arith

-- ---- a call on a good stream
module _ (s : Stream) (g : bad_state s ≡ false) (h : Shaped s) where
  fed_shaped : (p : List ℕ) → Shaped (fed s p)
  unfolding fed
  fed_shaped p =
      let long = h.held in
      let w = hand_length s.held p (s.count % 16) (omega arith) in
      let d = length-drop (16 * made s (length p)) (at_hand s p) in
      record {
        chain = chain_long (enciphered s.schedule) (enciphered_long s.schedule (good s g).schedule) s.direction s.chain
            (blocks (made s (length p)) (at_hand s p)) h.chain (blocks_long (made s (length p)) (at_hand s p) (omega arith));
        held = held_long (drop (16 * made s (length p)) (at_hand s p)) (omega arith);
      }

  feed_shaped : (p : List ℕ) (room : ℕ) → Shaped (feed s p room).next
  feed_shaped p room = go (piece_refusal s (length p) room) refl
    where
      go : (k : ℕ) → piece_refusal s (length p) room ≡ k → Shaped (feed s p room).next
      go zero e = subst (λ (r : Fed). Shaped r.next) (sym (piece_done s p room e)) (fed_shaped p)
      go (suc k) e = subst (λ (r : Fed). Shaped r.next) (sym (piece_not s p room k e)) h

  finish_shaped : Shaped (finish s).next
  unfolding finish
  finish_shaped = go (eqb (finish_refusal s) refusal.done)
    where
      go : (t : Bool) → Shaped (choose t (finished_as refusal.done (closed_stream s)) (finished_as (finish_refusal s) s)).next
      go true = record { chain = h.chain; held = h.held }
      go false = h

  pub next_shaped : (k : Call) → Shaped (next s k)
  next_shaped (piece p o) = feed_shaped p (length o)
  next_shaped end = finish_shaped

  pub next_good : (k : Call) → bad_state (next s k) ≡ false
  next_good (piece p o) = feed_keeps_good s h.held g p (length o)
  next_good end = finish_keeps_good s h.held g
