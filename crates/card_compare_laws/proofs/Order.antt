-- The list is sorted by recipe, then segment, and has no pair twice.
use mathlib.Core.Path.{◌≡◌, refl, sym, ap, ap₂, ◌∙◌}
use mathlib.Core.Bool.{Bool, true, false, not, ◌&&◌, ◌||◌, and-false}
use mathlib.Core.List.{List, [], ◌∷◌, ◌++◌}
use Prim.Native.Nat.{ℕ, zero, suc, ◌-◌, ◌/◌, ◌%◌, ◌<◌}
use native.Mathlib.Omega.{arith}
use lib.Dec.{eqb, ltb}
use borrow.Author.Tests.{eq-eqb, ne_eqb, lt-ltb, ltb-true, ltb-false}
use Rattle.laws.specs.Choice.{choose}
use Rattle.laws.proofs.Test.{and_left, and_right}
use Rattle.card_slots.specs.Card.{every, some, same_pair, none_twice}
use Rattle.card_compare.specs.Compare.{alike, mark, change_at, each, changes}
use Rattle.card_compare.proofs.Numbers.{pair_at, all_pairs, left, left_all}
use Rattle.card_compare_laws.specs.Changes.{before, sorted, pairs_of}

-- ---- a lower number is before a higher one
before_number : (i k : ℕ) → i < k → before (pair_at i) (pair_at k) ≡ true
before_number i k h = by_test (ltb (i / 256) (k / 256)) refl
  where
    by_test : (t : Bool) → ltb (i / 256) (k / 256) ≡ t → (t || eqb (i / 256) (k / 256) && ltb (i % 256) (k % 256)) ≡ true
    by_test true e = refl
    by_test false e =
        let l = ltb-false (i / 256) (k / 256) e in
        ap₂ ◌&&◌ (eq-eqb (i / 256) (k / 256) (omega arith)) (lt-ltb (i % 256) (k % 256) (omega arith))

module _ (a b : List ℕ) where
  abbrev from : ℕ → ℕ → List ((ℕ × ℕ) × ℕ)
  from k n = each (λ j. change_at a b (pair_at j)) k n

  all_later : (i k n : ℕ) → i < k → every (λ d. before (pair_at i) d.0) (from k n) ≡ true
  unfolding change_at
  all_later i k zero h = refl
  all_later i k (suc n) h = by_test (alike a b (pair_at k)) (all_later i (suc k) n (omega arith))
    where
      by_test : (t : Bool) → every (λ d. before (pair_at i) d.0) (from (suc k) n) ≡ true
          → every (λ d. before (pair_at i) d.0) (choose t [] ((pair_at k, mark a b (pair_at k)) ∷ []) ++ from (suc k) n) ≡ true
      by_test true u = u
      by_test false u = ap₂ ◌&&◌ (before_number i k h) u

  from_sorted : (k n : ℕ) → sorted (from k n) ≡ true
  unfolding change_at
  from_sorted k zero = refl
  from_sorted k (suc n) = by_test (alike a b (pair_at k)) (from_sorted (suc k) n)
    where
      by_test : (t : Bool) → sorted (from (suc k) n) ≡ true → sorted (choose t [] ((pair_at k, mark a b (pair_at k)) ∷ []) ++ from (suc k) n) ≡ true
      by_test true u = u
      by_test false u = ap₂ ◌&&◌ (all_later k (suc k) n (omega arith)) u

  pub changes-sorted : sorted (changes a b) ≡ true
  unfolding left
  changes-sorted = ap sorted (sym (left_all a b)) ∙ from_sorted 0 (all_pairs - 0)

-- ---- so no pair stands twice
before_other : (p q : ℕ × ℕ) → before p q ≡ true → same_pair p q ≡ false
before_other p q = by_test (ltb p.0 q.0) refl
  where
    by_test : (t : Bool) → ltb p.0 q.0 ≡ t → (t || eqb p.0 q.0 && ltb p.1 q.1) ≡ true → same_pair p q ≡ false
    by_test true e h =
        let l = ltb-true p.0 q.0 e in
        ap (λ (t : Bool). t && eqb p.1 q.1) (ne_eqb p.0 q.0 (λ z. omega arith))
    by_test false e h =
        let l = ltb-true p.1 q.1 (and_right (eqb p.0 q.0) _ h) in
        ap (λ (t : Bool). eqb p.0 q.0 && t) (ne_eqb p.1 q.1 (λ z. omega arith)) ∙ and-false (eqb p.0 q.0)

not_again : (p : ℕ × ℕ) (cs : List ((ℕ × ℕ) × ℕ)) → every (λ d. before p d.0) cs ≡ true → some (same_pair p) (pairs_of cs) ≡ false
not_again p [] e = refl
not_again p (d ∷ cs) e = ap₂ ◌||◌ (before_other p d.0 (and_left _ _ e)) (not_again p cs (and_right (before p d.0) _ e))

sorted_once : (cs : List ((ℕ × ℕ) × ℕ)) → sorted cs ≡ true → none_twice (pairs_of cs) ≡ true
sorted_once [] e = refl
sorted_once (c ∷ cs) e =
    let l = every (λ d. before c.0 d.0) cs in
    ap₂ (λ (t u : Bool). not t && u) (not_again c.0 cs (and_left l _ e)) (sorted_once cs (and_right l _ e))

pub no_pair_twice : (a b : List ℕ) → none_twice (pairs_of (changes a b)) ≡ true
no_pair_twice a b = sorted_once (changes a b) (changes-sorted a b)
