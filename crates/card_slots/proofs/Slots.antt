-- The slots of a card by their numbers, and the loop that looks through them for the first of which a test holds.
use mathlib.Core.Path.{◌≡◌, sym, ap, ◌∙◌}
use mathlib.Core.Bool.{Bool, true, false}
use mathlib.Core.List.{List, [], ◌∷◌}
use Prim.Native.Nat.{ℕ, ◌+◌, ◌*◌, ◌/◌, ◌≤◌, ◌<◌}
use native.Mathlib.Omega.{arith}
use native.Mathlib.Numerals.{add-one}
use lib.ListN.{length, get_or, drop, length-drop, drop_of_length-le}
use lib.Seq.{drop-cons, length-take-le}
use Rattle.laws.proofs.Places.{length-tab, get_or-tab}
use Rattle.card_slots.specs.Card.{slot, slots}
use Rattle.card_slots.specs.Find.{place}

pub slots_length : (card : List ℕ) → length (slots card) ≡ length card / 16
unfolding slots
slots_length card = length-tab (length card / 16) (slot card)

module _ (card : List ℕ) (i : ℕ) (h : i < length card / 16) where
  pub slots_at : get_or (slots card) i [] ≡ slot card i
  unfolding slots
  slots_at = get_or-tab (length card / 16) (slot card) i [] h

  pub slots_next : drop i (slots card) ≡ slot card i ∷ drop (i + 1) (slots card)
  slots_next =
      let l : i < length (slots card) = rw slots_length h in
      rw (add-one, ← slots_at) (drop-cons (slots card) i [] l)

  pub slot-length : length (slot card i) ≡ 16
  slot-length = let e = length-drop (i * 16) card in length-take-le 16 (drop (i * 16) card) (omega arith)

  pub long : {s : List ℕ} → s ≡ slot card i → length s ≡ 16
  long e = ap length e ∙ slot-length

pub slots_end : (card : List ℕ) (i : ℕ) → length card / 16 ≤ i → drop i (slots card) ≡ []
slots_end card i h = let e = slots_length card in let l : length (slots card) ≤ i = omega arith in drop_of_length-le (slots card) l

-- ---- the loop: the test holds of no slot before i, so that those from i on decide what x is
pub record Looked (t : List ℕ → Bool) (card : List ℕ) (x n i : ℕ) : Type 0 where
  pub all : n ≡ length card / 16
  pub inside : i ≤ n
  pub still : i + place t (drop i (slots card)) ≡ x

module _ {t : List ℕ → Bool} {card : List ℕ} {x n i : ℕ} (w : Looked t card x n i) where
  in_card : i < n → i < length card / 16
  in_card h = let a = w.all in omega arith

  pub looked_on : i < n → {b : Bool} {s : List ℕ} → s ≡ slot card i → b ≡ t s → b ≡ false → Looked t card x n (i + 1)
  looked_on h l e f =
      let no : t (slot card i) ≡ false = sym (e ∙ ap t l) ∙ f in
      let one : i + 1 + place t (drop (i + 1) (slots card)) ≡ i + place t (drop i (slots card)) = rw (slots_next card i (in_card h), no) (omega arith) in
      record { all = w.all; inside = omega arith; still = one ∙ w.still }

  pub looked_here : i < n → {b : Bool} {s : List ℕ} → s ≡ slot card i → b ≡ t s → b ≡ true → i ≡ x
  looked_here h l e f =
      let yes : t (slot card i) ≡ true = sym (e ∙ ap t l) ∙ f in
      let here : i ≡ i + place t (drop i (slots card)) = rw (slots_next card i (in_card h), yes) (omega arith) in
      here ∙ w.still

  pub looked_end : n ≤ i → n ≡ x
  looked_end h =
      let a = w.all in
      let l = w.inside in
      let end : i ≡ i + place t (drop i (slots card)) = rw (slots_end card i (omega arith)) (omega arith) in
      let s = w.still in
      omega arith
