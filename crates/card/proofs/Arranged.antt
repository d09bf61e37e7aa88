-- The keys in order tell whether a pair stands twice; and what they are on a good card.
use mathlib.Core.Path.{◌≡◌, refl, sym, ap, ap₂, ◌∙◌, subst}
use mathlib.Core.Bool.{Bool, true, false, not, ◌&&◌, true≢false}
use mathlib.Core.List.{List, [], ◌∷◌}
use Prim.Native.Nat.{ℕ, zero, suc, ◌+◌, ◌*◌, ◌/◌, ◌%◌, ◌≤◌, ◌<◌}
use native.Mathlib.Omega.{arith}
use native.Mathlib.Nat.{le_of_suc-le-suc, not-suc-le-zero}
use native.Mathlib.Decide.{ℕ_discrete}
use lib.Dec.{eqb, leb, ltb}
use lib.ListN.{length, get_or}
use borrow.Author.Tests.{eqb-true, leb-true, ltb-true, ltb-false, not-true}
use Rattle.laws.specs.Choice.{choose}
use Rattle.laws.proofs.Test.{and_left, and_right, fails}
use Rattle.runs.specs.Zeros.{zeros}
use Rattle.sorting.specs.Sorted.{Sorted, times}
use Rattle.sorting.proofs.Times.{stands_times, times_stands, twice_times}
use Rattle.laws.specs.Range.{within}
use Rattle.card_slots.specs.Slot.{recipe, segment, pair_of, empty, keeps_rules, legal}
use Rattle.card_slots.specs.Card.{slot, slots, every, some, pairs, none_twice}
use Rattle.card_slots.specs.Find.{named}
use Rattle.card_keys.specs.code.Keys.{key_of, keys_from, Neighbours, Apart}
use Rattle.card.specs.code.Order.{Ordered}
use Rattle.card_slots.proofs.Slots.{slots_length, slots_at}
use Rattle.card_slots.proofs.Named.{named_pair, named_not_empty, named_self}
use Rattle.card_keys.proofs.Collected.{key_times, times_key, key_slot, key_once}
use Rattle.card_slots.proofs.Twice.{some_at, at_some, every_at, again, twice_cons}

-- ---- two slots with one pair
abbrev Two : List (List ℕ) → ℕ → ℕ → Type 0
Two ss i j =
    (i < j) × (j < length ss) × (empty (get_or ss i []) ≡ false) × (empty (get_or ss j []) ≡ false) × (pair_of (get_or ss i []) ≡ pair_of (get_or ss j []))

two_twice : (ss : List (List ℕ)) → none_twice (pairs ss) ≡ true → (i j : ℕ) → Two ss i j → ⊥
two_twice [] e i j w = not-suc-le-zero w.1
two_twice (s ∷ ss) e i zero w = not-suc-le-zero w.0
two_twice (s ∷ ss) e zero (suc j) w =
    let here : named (pair_of s) (get_or ss j []) ≡ true =
    ap (λ (p : ℕ × ℕ). named p (get_or ss j [])) w.4 ∙ named_self (get_or ss j []) w.3 in
    let stands = some_at (named (pair_of s)) ss j (le_of_suc-le-suc w.1) here in
    let none = and_left (not (again (s ∷ ss))) (none_twice (pairs ss)) (sym (twice_cons s ss) ∙ e) in
    true≢false (sym (ap₂ (λ (a b : Bool). not a && b) w.2 stands) ∙ not-true (again (s ∷ ss)) none)
two_twice (s ∷ ss) e (suc i) (suc j) w =
    two_twice ss (and_right (not (again (s ∷ ss))) (none_twice (pairs ss)) (sym (twice_cons s ss) ∙ e)) i j
    (le_of_suc-le-suc w.0, le_of_suc-le-suc w.1, w.2, w.3, w.4)

none_two : (ss : List (List ℕ)) → ((i j : ℕ) → Two ss i j → ⊥) → none_twice (pairs ss) ≡ true
none_two [] h = refl
none_two (s ∷ ss) h =
    twice_cons s ss
    ∙ ap₂ (λ (a b : Bool). not a && b) (fails (again (s ∷ ss)) not_again)
    (none_two ss (λ i j w. h (suc i) (suc j) (omega (arith, w.0), omega (arith, w.1), w.2, w.3, w.4)))
  where
    not_again : again (s ∷ ss) ≡ true → ⊥
    not_again e =
        let w = at_some (named (pair_of s)) ss (and_right (not (empty s)) (some (named (pair_of s)) ss) e) in
        let j = w.0 in
        let filled = not-true (empty s) (and_left (not (empty s)) (some (named (pair_of s)) ss) e) in
        h 0 (suc j)
        (omega arith, omega (arith, w.1), filled, named_not_empty (pair_of s) (get_or ss j []) w.2, sym (named_pair (pair_of s) (get_or ss j []) w.2))

-- ---- pairs that rise from one key to the next rise from each to every later one
pub rise_far : (t : List ℕ) → ((u : ℕ) → u + 1 < length t → get_or t u 0 / 256 < get_or t (u + 1) 0 / 256)
    → (u v : ℕ) → u < v → v < length t → get_or t u 0 / 256 < get_or t v 0 / 256
rise_far t rises u zero h k = absurd (not-suc-le-zero h)
rise_far t rises u (suc v) h k = by_eq (ℕ_discrete u v) (λ m. rise_far t rises u v m (omega arith))
  where
    next : get_or t v 0 / 256 < get_or t (suc v) 0 / 256
    next = let z : v + 1 ≡ suc v = omega arith in subst (λ (m : ℕ). get_or t v 0 / 256 < get_or t m 0 / 256) z (rises v (omega arith))

    by_eq : Dec (u ≡ v) → (u < v → get_or t u 0 / 256 < get_or t v 0 / 256) → get_or t u 0 / 256 < get_or t (suc v) 0 / 256
    by_eq (yes e) r = subst (λ (m : ℕ). get_or t m 0 / 256 < get_or t (suc v) 0 / 256) (sym e) next
    by_eq (no n) r = let a = r (omega arith) in let b = next in omega arith

-- ---- a slot by its key
pub slot_range : (s : List ℕ) → legal s ≡ true → empty s ≡ false → (1 ≤ recipe s) × (recipe s ≤ 65535) × (segment s ≤ 32)
unfolding keeps_rules
slot_range s l e =
    let rules : keeps_rules s ≡ true = sym (ap (λ (b : Bool). choose b true (keeps_rules s)) e) ∙ l in
    let two = and_left _ _ (and_left _ _ (and_left _ _ rules)) in
    let r = and_left _ _ two in (
      leb-true 1 (recipe s) (and_left (leb 1 (recipe s)) (leb (recipe s) 65535) r),
      leb-true (recipe s) 65535 (and_right (leb 1 (recipe s)) (leb (recipe s) 65535) r),
      leb-true (segment s) 32 (and_right (leb 1 (segment s)) _ (and_right (within 1 65535 (recipe s)) _ two)),
    )

zeros-get_or : (s : List ℕ) (k : ℕ) → zeros s ≡ true → ◌≡◌ {A = ℕ} (get_or s k 0) 0
zeros-get_or [] k z = refl
zeros-get_or (x ∷ s) k z = by_test (eqb x 0) refl z k (λ j u. zeros-get_or s j u)
  where
    by_test : (b : Bool) → eqb x 0 ≡ b → choose b (zeros s) false ≡ true → (k : ℕ) → ((j : ℕ) → zeros s ≡ true → ◌≡◌ {A = ℕ} (get_or s j 0) 0)
        → ◌≡◌ {A = ℕ} (get_or (x ∷ s) k 0) 0
    by_test true e u zero r = eqb-true x 0 e
    by_test true e u (suc k) r = r k u
    by_test false e u k r = absurd (true≢false (sym u))

pub key_filled : (s : List ℕ) (i : ℕ) → i < 256 → 256 ≤ key_of s i → empty s ≡ false
unfolding empty
key_filled s i h l =
    fails (zeros s)
    (λ e.
    let a = zeros-get_or s 0 e in
    let b = zeros-get_or s 1 e in
    let c = zeros-get_or s 2 e in
    omega arith)

-- ---- the keys of a card of legal slots, in order
-- a key's number is that of the slot's pair
pub key_number : (s : List ℕ) (i : ℕ) → i < 256 → key_of s i / 256 ≡ recipe s * 256 + segment s
key_number s i h = omega arith

same_number : (s r : List ℕ) → segment s ≤ 32 → segment r ≤ 32 → recipe s * 256 + segment s ≡ recipe r * 256 + segment r → pair_of s ≡ pair_of r
same_number s r h k e =
    let a : recipe s ≡ recipe r = omega arith in
    let b : segment s ≡ segment r = omega arith in
    ap₂ (λ (m n : ℕ). (m, n)) a b

module _ (card t : List ℕ) (w : Sorted (keys_from 0 (slots card)) t) (l : every legal (slots card) ≡ true) (few : length card / 16 ≤ 256) where
  abbrev at : ℕ → List ℕ
  at i = get_or (slots card) i []

  in_few : {i : ℕ} → i < length (slots card) → i < 256
  in_few h = let e = slots_length card in omega arith

  each_key : (u : ℕ) → u < length t → (i : ℕ) × (i < length (slots card)) × (get_or t u 0 ≡ key_of (at i) i) × (256 ≤ key_of (at i) i)
  each_key u h =
      let e = w.rearranged (get_or t u 0) in
      let n = stands_times t u h in
      let k = times_key (get_or t u 0) 0 (slots card) (omega arith) in
      let z : 0 + k.0 ≡ k.0 = omega arith in
      let is = k.1.1 ∙ ap (key_of (at k.0)) z in
      (k.0, k.1.0, is, subst (λ (x : ℕ). 256 ≤ x) is k.1.2)

  all_keys : (i : ℕ) → i < length (slots card) → 256 ≤ key_of (at i) i → (u : ℕ) × (u < length t) × (get_or t u 0 ≡ key_of (at i) i)
  all_keys i h k =
      let z : i ≡ 0 + i = omega arith in
      let n = subst (λ (m : ℕ). 1 ≤ times (key_of (at i) m) (keys_from 0 (slots card))) (sym z)
      (key_times 0 (slots card) i h (subst (λ (m : ℕ). 256 ≤ key_of (at i) m) z k)) in
      let e = w.rearranged (key_of (at i) i) in
      times_stands (key_of (at i) i) t (omega arith)

  range_at : (i : ℕ) → i < length (slots card) → empty (at i) ≡ false → (1 ≤ recipe (at i)) × (recipe (at i) ≤ 65535) × (segment (at i) ≤ 32)
  range_at i h e = slot_range (at i) (every_at legal (slots card) i l h) e

  -- ---- two neighbours with one pair: it stands twice
  two : (i j : ℕ) → i < j → j < length (slots card) → 256 ≤ key_of (at i) i → 256 ≤ key_of (at j) j
      → key_of (at i) i / 256 ≡ key_of (at j) j / 256 → Two (slots card) i j
  two i j h k p q e =
      let m = in_few k in
      let a = key_filled (at i) i (omega arith) p in
      let b = key_filled (at j) j m q in
      let ra = (range_at i (omega arith) a).2 in
      let rb = (range_at j k b).2 in
      (h, k, a, b, same_number (at i) (at j) ra rb (sym (key_number (at i) i (omega arith)) ∙ e ∙ key_number (at j) j m))

  not_twice : (i j : ℕ) → (i ≡ j → ⊥) → i < length (slots card) → j < length (slots card) → 256 ≤ key_of (at i) i → 256 ≤ key_of (at j) j
      → key_of (at i) i / 256 ≡ key_of (at j) j / 256 → none_twice (pairs (slots card)) ≡ true → ⊥
  not_twice i j n h k p q e z = by_side (ltb i j) refl
    where
      by_side : (b : Bool) → ltb i j ≡ b → ⊥
      by_side true u = two_twice (slots card) z i j (two i j (ltb-true i j u) k p q e)
      by_side false u = let v = ltb-false i j u in two_twice (slots card) z j i (two j i (omega arith) h q p (sym e))

  neighbours_twice : (u : ℕ) → Neighbours t u → none_twice (pairs (slots card)) ≡ true → ⊥
  neighbours_twice u n =
      let m = n.0 in
      let a = each_key u (omega arith) in
      let b = each_key (u + 1) n.0 in
      not_twice a.0 b.0 (other a.0 b.0 a.2 b.2) a.1 b.1 a.3 b.3
      (sym (ap (λ (k : ℕ). k / 256) a.2) ∙ n.1 ∙ ap (λ (k : ℕ). k / 256) b.2)
    where
      other : (i j : ℕ) → get_or t u 0 ≡ key_of (at i) i → get_or t (u + 1) 0 ≡ key_of (at j) j → i ≡ j → ⊥
      other i j e f z =
          let g = twice_times t u n.0 (e ∙ ap (λ (k : ℕ). key_of (at k) k) z ∙ sym f) in
          let r = w.rearranged (get_or t u 0) in
          let c = slots_length card in
          let o = key_once (get_or t u 0) 0 (slots card) (omega arith) in
          omega arith

  -- ---- no such neighbours: the pairs rise, and none stands twice
  module _ (apart : (u : ℕ) → Neighbours t u → ⊥) where
    rises : (u : ℕ) → u + 1 < length t → get_or t u 0 / 256 < get_or t (u + 1) 0 / 256
    rises u h = by_eq (ℕ_discrete (get_or t u 0 / 256) (get_or t (u + 1) 0 / 256))
      where
        by_eq : Dec (get_or t u 0 / 256 ≡ get_or t (u + 1) 0 / 256) → get_or t u 0 / 256 < get_or t (u + 1) 0 / 256
        by_eq (yes e) = absurd (apart u (h, e))
        by_eq (no n) = let a = w.rises u h in omega arith

    upwards : (u v : ℕ) → u < v → v < length t → get_or t u 0 / 256 < get_or t v 0 / 256
    upwards u v h k = rise_far t rises u v h k

    one_place : (u v : ℕ) → u < length t → v < length t → get_or t u 0 / 256 ≡ get_or t v 0 / 256 → u ≡ v
    one_place u v h k e = by_side (ltb u v) refl (ltb v u) refl
      where
        by_side : (a : Bool) → ltb u v ≡ a → (b : Bool) → ltb v u ≡ b → u ≡ v
        by_side true p b q = let x = upwards u v (ltb-true u v p) k in absurd (omega arith)
        by_side false p true q = let x = upwards v u (ltb-true v u q) h in absurd (omega arith)
        by_side false p false q = let x = ltb-false u v p in let y = ltb-false v u q in omega arith

    none_twice_lem : none_twice (pairs (slots card)) ≡ true
    none_twice_lem = none_two (slots card) no_two
      where
        no_two : (i j : ℕ) → Two (slots card) i j → ⊥
        no_two i j x =
            let h : i < length (slots card) = omega (arith, x.0, x.1) in
            let a = all_keys i h (let r = (range_at i h x.2).0 in omega arith) in
            let b = all_keys j x.1 (let r = (range_at j x.1 x.3).0 in omega arith) in
            let e : key_of (at i) i / 256 ≡ key_of (at j) j / 256 =
            key_number (at i) i (in_few h) ∙ ap (λ (p : ℕ × ℕ). p.0 * 256 + p.1) x.4 ∙ sym (key_number (at j) j (in_few x.1)) in
            let z = one_place a.0 b.0 a.1 b.1 (ap (λ (k : ℕ). k / 256) a.2 ∙ e ∙ sym (ap (λ (k : ℕ). k / 256) b.2)) in
            let f : key_of (at i) i ≡ key_of (at j) j = sym a.2 ∙ ap (λ (k : ℕ). get_or t k 0) z ∙ b.2 in
            let g : i ≡ j = sym (key_slot (at i) i (in_few h)) ∙ ap (λ (k : ℕ). k % 256) f ∙ key_slot (at j) j (in_few x.1) in
            omega (arith, x.0)

    ordered : length t ≤ 256 → Ordered card t
    ordered n =
        record {
          few = n;
          rises = rises;
          each =
              λ u h.
              let k = each_key u h in
              let i = k.0 in
              let m : i < length card / 16 = subst (λ (x : ℕ). i < x) (slots_length card) k.1 in
              let e = slots_at card i m in
              let f = key_slot (at i) i (in_few k.1) in
              let last : get_or t u 0 % 256 ≡ i = ap (λ (x : ℕ). x % 256) k.2 ∙ f in
              let r = range_at i k.1 (key_filled (at i) i (in_few k.1) k.3) in
              let rr = r.1 in
              let rs = r.2 in
              let q = ap (λ (x : ℕ). x / 256) k.2 ∙ key_number (at i) i (in_few k.1) in
              record {
                inside = subst (λ (x : ℕ). x < length card / 16) (sym last) m;
                is = k.2 ∙ ap (λ (s : List ℕ). key_of s i) e ∙ ap (λ (x : ℕ). key_of (slot card x) x) (sym last);
                filled = subst (λ (x : ℕ). 256 ≤ x) (sym k.2) k.3;
                low = omega arith;
              };
          all =
              λ i h k.
              let e = slots_at card i h in
              let a = all_keys i (subst (λ (x : ℕ). i < x) (sym (slots_length card)) h) (subst (λ (s : List ℕ). 256 ≤ key_of s i) (sym e) k) in
              (a.0, a.1, a.2 ∙ ap (λ (s : List ℕ). key_of s i) e);
        }

  -- ---- so whether neighbours are apart is whether none stands twice
  module _ {r : Bool} (a : Apart t r) where
    pub apart_none : r ≡ none_twice (pairs (slots card))
    apart_none = by_test r refl
      where
        by_test : (b : Bool) → r ≡ b → r ≡ none_twice (pairs (slots card))
        by_test true e = e ∙ sym (none_twice_lem (a.yes e))
        by_test false e = let n = a.no e in e ∙ sym (fails (none_twice (pairs (slots card))) (neighbours_twice n.0 n.1))

    pub apart_ordered : length t ≤ 256 → r ≡ true → Ordered card t
    apart_ordered n e = ordered (a.yes e) n
