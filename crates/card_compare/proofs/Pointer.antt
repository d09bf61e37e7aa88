-- One card's keys gone through by a pointer: which pairs the card has from a number on.
use mathlib.Core.Path.{◌≡◌, refl, sym, ap, ap₂, ◌∙◌, subst}
use mathlib.Core.Bool.{Bool, true, false}
use mathlib.Core.List.{List, []}
use Prim.Native.Nat.{ℕ, ◌+◌, ◌/◌, ◌%◌, ◌≤◌, ◌<◌}
use native.Mathlib.Omega.{arith}
use native.Mathlib.Decide.{ℕ_discrete}
use lib.Dec.{eqb, ltb}
use lib.ListN.{length, get_or}
use borrow.Author.Tests.{eqb-true, eqb-false, ltb-true, ltb-false, lt-ltb, le-ltb}
use Rattle.laws.specs.Choice.{choose}
use Rattle.laws.proofs.Test.{fails}
use Rattle.card_slots.specs.Slot.{recipe, segment, pair_of, legal}
use Rattle.card_slots.specs.Card.{slot, slots, good}
use Rattle.card_slots.specs.Find.{place, named, found, find_part}
use Rattle.card.specs.code.Order.{Key, Ordered}
use Rattle.card_slots.proofs.Slots.{slots_length, slots_at}
use Rattle.card_slots.proofs.Named.{named_pair, named_self}
use Rattle.card_slots.proofs.Twice.{every_at}
use Rattle.card.proofs.Arranged.{rise_far, slot_range, key_filled, key_number}
use Rattle.card_laws.proofs.Search.{place-true}
use Rattle.card_laws.proofs.Find.{few_slots, every-legal, found_inside, found_recipe, only_found, only_one}
use Rattle.card_compare.specs.code.Merge.{number_at, slot_at}
use Rattle.card_compare.proofs.Numbers.{pair_at, pair_number}

-- ---- the number at a place
pub number_inside : (keys : List ℕ) (i : ℕ) → i < length keys → number_at keys i ≡ get_or keys i 0 / 256
number_inside keys i h = rw (lt-ltb i (length keys) h)

pub number_behind : (keys : List ℕ) (i : ℕ) → length keys ≤ i → ◌≡◌ {A = ℕ} (number_at keys i) 16777216
number_behind keys i h = rw (le-ltb i (length keys) h)

-- a number that isn't behind the last key's
number_has : (keys : List ℕ) (i : ℕ) → number_at keys i < 16777216 → i < length keys
number_has keys i h = by_test (ltb i (length keys)) refl
  where
    by_test : (b : Bool) → ltb i (length keys) ≡ b → i < length keys
    by_test true e = ltb-true i (length keys) e
    by_test false e = let z = number_behind keys i (ltb-false i (length keys) e) in absurd (omega arith)

pub number_low : {card keys : List ℕ} → Ordered card keys → (i : ℕ) → i < length keys → number_at keys i < 16777216
number_low {card} {keys} o i h = let a = number_inside keys i h in let b = (o.each i h).low in omega arith

-- where the next two are one pair, both cards have it
pub both_inside : {first second a b : List ℕ} → Ordered first a → Ordered second b → {i j : ℕ} → i ≤ length a → j ≤ length b → i + j < length a + length b
    → number_at a i ≡ number_at b j → (i < length a) × (j < length b)
both_inside {first} {second} {a} {b} o r {i} {j} p q more e = by_side (ltb i (length a)) refl (ltb j (length b)) refl
  where
    by_side : (s : Bool) → ltb i (length a) ≡ s → (t : Bool) → ltb j (length b) ≡ t → (i < length a) × (j < length b)
    by_side true u true v = (ltb-true i (length a) u, ltb-true j (length b) v)
    by_side true u false v =
        let x = number_low o i (ltb-true i (length a) u) in
        let y = number_behind b j (ltb-false j (length b) v) in
        absurd (omega arith)
    by_side false u true v =
        let x = number_behind a i (ltb-false i (length a) u) in
        let y = number_low r j (ltb-true j (length b) v) in
        absurd (omega arith)
    by_side false u false v = let x = ltb-false i (length a) u in let y = ltb-false j (length b) v in absurd (omega arith)

module _ {card keys : List ℕ} (g : good card ≡ true) (o : Ordered card keys) where
  -- ---- the slot of a key is the one that has its pair
  module _ (i : ℕ) (h : i < length keys) where
    abbrev x : ℕ
    x = get_or keys i 0

    abbrev s : List ℕ
    s = slot_at card keys i

    key : Key card x
    key = o.each i h

    in_slots : x % 256 < length (slots card)
    in_slots = subst (λ (n : ℕ). x % 256 < n) (sym (slots_length card)) key.inside

    last : x % 256 < 256
    last = omega arith

    filled_slot : (1 ≤ recipe s) × (recipe s ≤ 65535) × (segment s ≤ 32)
    filled_slot =
        slot_range s (ap legal (sym (slots_at card (x % 256) key.inside)) ∙ every_at legal (slots card) (x % 256) (every-legal card g) in_slots)
        (key_filled s (x % 256) last (subst (λ (n : ℕ). 256 ≤ n) key.is key.filled))

    has_pair : pair_at (x / 256) ≡ pair_of s
    has_pair =
        let r = filled_slot.2 in
        ap (λ (n : ℕ). pair_at (n / 256)) key.is ∙ ap pair_at (key_number s (x % 256) last) ∙ pair_number (pair_of s) (omega arith)

    here : named (pair_at (x / 256)) (get_or (slots card) (x % 256) []) ≡ true
    here =
        ap₂ (λ (p : ℕ × ℕ) (r : List ℕ). named p r) has_pair (slots_at card (x % 256) key.inside)
        ∙ named_self s (key_filled s (x % 256) last (subst (λ (n : ℕ). 256 ≤ n) key.is key.filled))

    pub key_found : found card (pair_at (x / 256)) ≡ true
    key_found = only_found card (pair_at (x / 256)) (x % 256) g in_slots here

    pub key-part : find_part card (pair_at (x / 256)) ≡ s
    key-part = (only_one card (pair_at (x / 256)) (x % 256) g in_slots here).0 ∙ slots_at card (x % 256) key.inside

  -- ---- a pair that no key has
  pub no_key : (q : ℕ) → ((u : ℕ) → u < length keys → get_or keys u 0 / 256 ≡ q → ⊥) → found card (pair_at q) ≡ false
  no_key q n = fails (found card (pair_at q)) none
    where
      none : found card (pair_at q) ≡ true → ⊥
      none e =
          let i = place (named (pair_at q)) (slots card) in
          let m = found_inside card (pair_at q) e in
          let c : i < length card / 16 = subst (λ (k : ℕ). i < k) (slots_length card) m in
          let p : pair_of (slot card i) ≡ pair_at q =
          ap pair_of (sym (slots_at card i c)) ∙ named_pair (pair_at q) (get_or (slots card) i []) (place-true (named (pair_at q)) (slots card) m) in
          let f = few_slots card g in
          let r = (found_recipe card (pair_at q) e).0 in
          let a : recipe (slot card i) ≡ q / 256 = ap (λ (x : ℕ × ℕ). x.0) p in
          let b : segment (slot card i) ≡ q % 256 = ap (λ (x : ℕ × ℕ). x.1) p in
          let u = o.all i c (omega arith) in
          n u.0 u.1 (ap (λ (k : ℕ). k / 256) u.2 ∙ key_number (slot card i) i (omega arith) ∙ omega arith)

-- ---- the pairs of the keys before i are below `from`, the others aren't
pub record Pointer (keys : List ℕ) (i from : ℕ) : Type 0 where
  pub low : i ≤ length keys
  pub past : (u : ℕ) → u < i → get_or keys u 0 / 256 < from
  pub next : (u : ℕ) → i ≤ u → u < length keys → from ≤ get_or keys u 0 / 256

pub pointer_start : (keys : List ℕ) → Pointer keys 0 0
pointer_start keys = record { low = omega arith; past = λ u h. absurd (omega arith); next = λ u h k. omega arith }

module _ {card keys : List ℕ} (g : good card ≡ true) (o : Ordered card keys) {i from : ℕ} (p : Pointer keys i from) where
  -- from i on no pair is below that of key i
  upwards : (u : ℕ) → i ≤ u → u < length keys → number_at keys i ≤ get_or keys u 0 / 256
  upwards u h k = by_eq (ℕ_discrete i u)
    where
      by_eq : Dec (i ≡ u) → number_at keys i ≤ get_or keys u 0 / 256
      by_eq (yes e) = let a = number_inside keys i (omega arith) in let b = ap (λ (m : ℕ). get_or keys m 0 / 256) e in omega arith
      by_eq (no n) = let a = number_inside keys i (omega arith) in let b = rise_far keys o.rises i u (omega arith) k in omega arith

  -- between `from` and the number at i the card has nothing
  pub pointer_none : (q : ℕ) → from ≤ q → q < number_at keys i → found card (pair_at q) ≡ false
  pointer_none q h k = no_key g o q at_u
    where
      at_u : (u : ℕ) → u < length keys → get_or keys u 0 / 256 ≡ q → ⊥
      at_u u l e = by_side (ltb u i) refl
        where
          by_side : (b : Bool) → ltb u i ≡ b → ⊥
          by_side true f = let a = p.past u (ltb-true u i f) in omega arith
          by_side false f = let a = upwards u (ltb-false u i f) l in omega arith

  -- on to the numbers above z, past key i if that is z
  pub pointer_on : (z : ℕ) → from ≤ z → z ≤ number_at keys i → z < 16777216 → {j : ℕ} → j ≡ i + choose (eqb (number_at keys i) z) 1 0 → Pointer keys j (z + 1)
  pointer_on z h k l {j} e = by_test (eqb (number_at keys i) z) refl e
    where
      by_test : (b : Bool) → eqb (number_at keys i) z ≡ b → j ≡ i + choose b 1 0 → Pointer keys j (z + 1)
      by_test true f e =
          let is = eqb-true (number_at keys i) z f in
          let m = number_has keys i (omega arith) in
          let a = number_inside keys i m in
          record {
            low = omega arith;
            past = λ u v. at_past u v (ℕ_discrete u i);
            next = λ u v n. let b = rise_far keys o.rises i u (omega arith) n in omega arith;
          }
        where
          at_past : (u : ℕ) → u < j → Dec (u ≡ i) → get_or keys u 0 / 256 < z + 1
          at_past u v (yes c) =
              let is = eqb-true (number_at keys i) z f in
              let a = number_inside keys i (number_has keys i (omega arith)) in
              let b = ap (λ (m : ℕ). get_or keys m 0 / 256) c in
              omega arith
          at_past u v (no c) = let b = p.past u (omega arith) in omega arith
      by_test false f e =
          let other = eqb-false (number_at keys i) z f in
          let m = p.low in
          record {
            low = omega arith;
            past = λ u v. let b = p.past u (omega arith) in omega arith;
            next = λ u v n. let b = upwards u (omega arith) n in omega arith;
          }

  -- what the card has at the number at i
  pub pointer_at : (z : ℕ) → z ≡ number_at keys i → z < 16777216
      → (found card (pair_at z) ≡ true) × (find_part card (pair_at z) ≡ slot_at card keys i) × (from ≤ z)
  pointer_at z e l =
      let m = number_has keys i (omega arith) in
      let f : z ≡ get_or keys i 0 / 256 = e ∙ number_inside keys i m in
      let n = p.next i (omega arith) m in
      (ap (λ (q : ℕ). found card (pair_at q)) f ∙ key_found g o i m, ap (λ (q : ℕ). find_part card (pair_at q)) f ∙ key-part g o i m, omega arith)
