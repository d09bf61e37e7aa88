-- A card with a record in slot i: its slots are the old ones with that one set, and a second time changes nothing.
use mathlib.Core.Path.{◌≡◌, refl, sym, ap, ap₂, ◌∙◌, subst}
use mathlib.Core.Bool.{Bool, true, false}
use mathlib.Core.List.{List, [], ◌++◌, append_assoc}
use Prim.Native.Nat.{ℕ, ◌+◌, ◌-◌, ◌*◌, ◌/◌, ◌<◌}
use native.Mathlib.Omega.{arith}
use native.Mathlib.Decide.{ℕ_discrete}
use lib.Dec.{ltb}
use lib.ListN.{length, get_or, take, drop, set, length-append, length-drop, length-set, get_or-append}
use lib.Seq.{length-take-le, take_at, drop_at, get_or-take, get_or-drop, get_or-append-add, ext_get_or, get_or-set_same, get_or-set_other}
use borrow.Author.Tests.{ltb-true, ltb-false}
use Rattle.card_slots.specs.Card.{slot, slots}
use Rattle.card.specs.Put.{written}
use Rattle.card_slots.proofs.Slots.{slots_length, slots_at, slot-length}

slot_byte : (c : List ℕ) (j q : ℕ) → q < 16 → get_or (slot c j) q 0 ≡ get_or c (j * 16 + q) 0
slot_byte c j q l = get_or-take 16 (drop (j * 16) c) q 0 l ∙ get_or-drop (j * 16) c q 0

module _ (card : List ℕ) (i : ℕ) (r : List ℕ) (h : i < length card / 16) (lr : length r ≡ 16) where
  front_length : length (take (i * 16) card) ≡ i * 16
  front_length = length-take-le (i * 16) card (omega arith)

  joined : written card i r ≡ take (i * 16) card ++ (r ++ drop (i * 16 + 16) card)
  joined = append_assoc (take (i * 16) card) r (drop (i * 16 + 16) card)

  pub written-length : length (written card i r) ≡ length card
  written-length =
      let a = length-append (take (i * 16) card) (r ++ drop (i * 16 + 16) card) in
      let b = length-append r (drop (i * 16 + 16) card) in
      let d = length-drop (i * 16 + 16) card in
      let f = front_length in
      ap length joined ∙ omega arith

  -- ---- its bytes: before the slot, in it, behind it
  byte_before : (k : ℕ) → k < i * 16 → get_or (written card i r) k 0 ≡ get_or card k 0
  byte_before k l =
      let f = front_length in
      ap (λ (l : List ℕ). get_or l k 0) joined
      ∙ get_or-append (take (i * 16) card) (r ++ drop (i * 16 + 16) card) 0 k (omega arith)
      ∙ get_or-take (i * 16) card k 0 l

  past_front : (n : ℕ) → get_or (written card i r) (i * 16 + n) 0 ≡ get_or (r ++ drop (i * 16 + 16) card) n 0
  past_front n =
      ap₂ (λ (l : List ℕ) (m : ℕ). get_or l (m + n) 0) joined (sym front_length)
      ∙ get_or-append-add (take (i * 16) card) (r ++ drop (i * 16 + 16) card) n 0

  byte_in : (q : ℕ) → q < 16 → get_or (written card i r) (i * 16 + q) 0 ≡ get_or r q 0
  byte_in q l = past_front q ∙ get_or-append r (drop (i * 16 + 16) card) 0 q (omega arith)

  byte_behind : (n : ℕ) → get_or (written card i r) (i * 16 + 16 + n) 0 ≡ get_or card (i * 16 + 16 + n) 0
  byte_behind n =
      let e : i * 16 + 16 + n ≡ i * 16 + (length r + n) = omega arith in
      ap (λ (m : ℕ). get_or (written card i r) m 0) e
      ∙ past_front (length r + n)
      ∙ get_or-append-add r (drop (i * 16 + 16) card) n 0
      ∙ get_or-drop (i * 16 + 16) card n 0

  byte_other : (j q : ℕ) → (j ≡ i → ⊥) → q < 16 → get_or (written card i r) (j * 16 + q) 0 ≡ get_or card (j * 16 + q) 0
  byte_other j q ne l = at_side (ltb j i) refl
    where
      at_side : (t : Bool) → ltb j i ≡ t → get_or (written card i r) (j * 16 + q) 0 ≡ get_or card (j * 16 + q) 0
      at_side true e = let s = ltb-true j i e in byte_before (j * 16 + q) (omega arith)
      at_side false e =
          let s = ltb-false j i e in
          let k : j * 16 + q ≡ i * 16 + 16 + (j * 16 + q - (i * 16 + 16)) = omega arith in
          ap (λ (m : ℕ). get_or (written card i r) m 0) k ∙ byte_behind (j * 16 + q - (i * 16 + 16)) ∙ ap (λ (m : ℕ). get_or card m 0) (sym k)

  -- ---- its slots
  fits_still : (j : ℕ) → j < length card / 16 → j < length (written card i r) / 16
  fits_still j l = subst (λ (n : ℕ). j < n / 16) (sym written-length) l

  slot_same : slot (written card i r) i ≡ r
  slot_same =
      let w = slot-length (written card i r) i (fits_still i h) in
      ext_get_or 0 (slot (written card i r) i) r (w ∙ sym lr)
      (λ q l. let m : q < 16 = subst (λ (n : ℕ). q < n) w l in slot_byte (written card i r) i q m ∙ byte_in q m)

  slot_other : (j : ℕ) → (j ≡ i → ⊥) → j < length card / 16 → slot (written card i r) j ≡ slot card j
  slot_other j ne l =
      let w = slot-length (written card i r) j (fits_still j l) in
      ext_get_or 0 (slot (written card i r) j) (slot card j) (w ∙ sym (slot-length card j l))
      (λ q k. let m : q < 16 = subst (λ (n : ℕ). q < n) w k in
      slot_byte (written card i r) j q m ∙ byte_other j q ne m ∙ sym (slot_byte card j q m))

  pub slots-written : slots (written card i r) ≡ set (slots card) i r
  slots-written = ext_get_or [] (slots (written card i r)) (set (slots card) i r) long (λ j l. at_slot j l (ℕ_discrete j i))
    where
      long : length (slots (written card i r)) ≡ length (set (slots card) i r)
      long =
          slots_length (written card i r) ∙ ap (λ (n : ℕ). n / 16) written-length ∙ sym (slots_length card)
          ∙ sym (length-set (slots card) i r)

      at_slot : (j : ℕ) → j < length (slots (written card i r)) → Dec (j ≡ i) → get_or (slots (written card i r)) j [] ≡ get_or (set (slots card) i r) j []
      at_slot j l (yes e) =
          ap (λ (m : ℕ). get_or (slots (written card i r)) m []) e
          ∙ slots_at (written card i r) i (fits_still i h) ∙ slot_same
          ∙ sym (get_or-set_same (slots card) i r [] (subst (λ (n : ℕ). i < n) (sym (slots_length card)) h))
          ∙ sym (ap (λ (m : ℕ). get_or (set (slots card) i r) m []) e)
      at_slot j l (no ne) =
          let a : j < length (written card i r) / 16 = subst (λ (n : ℕ). j < n) (slots_length (written card i r)) l in
          let b : j < length card / 16 = subst (λ (n : ℕ). j < n / 16) written-length a in
          slots_at (written card i r) j a ∙ slot_other j ne b ∙ sym (slots_at card j b) ∙ sym (get_or-set_other (slots card) i j r [] ne)

  pub written_twice : written (written card i r) i r ≡ written card i r
  written_twice =
      let f = front_length in
      let l = length-append (take (i * 16) card) r in
      ap₂ (λ (a b : List ℕ). a ++ r ++ b)
      (ap (take (i * 16)) joined ∙ take_at (take (i * 16) card) (r ++ drop (i * 16 + 16) card) (i * 16) f)
      (drop_at (take (i * 16) card ++ r) (drop (i * 16 + 16) card) (i * 16 + 16) (omega arith))
