-- The list is exact: a change is in it exactly if the cards differ there and the mark is right.
use mathlib.Core.Path.{◌≡◌, refl, sym, ◌∙◌, subst}
use mathlib.Core.Bool.{Bool, true, false, true≢false}
use mathlib.Core.Logic.{◌↔◌, ◌⊎◌, inl, inr}
use mathlib.Core.List.Memᴰ
use mathlib.Core.List.{List, [], ◌∷◌, cons≢nil}
use Prim.Native.Nat.{ℕ}
use Rattle.card_slots.specs.Find.{found, find_part}
use Rattle.card.proofs.Answers.{none_part}
use Rattle.card_laws.proofs.Find.{found_recipe, found_segment}
use Rattle.card_compare.specs.Compare.{alike, change_at, changes}
use Rattle.card_compare.proofs.Marks.{alike_same, same_alike, change_same, change_first, change_second, change_other}
use Rattle.card_compare_laws.specs.Changes.{Among, Changed, is_only_first, is_only_second, is_other_contents}
use Rattle.card_compare_laws.proofs.AllPairs.{InRange, from_all, in_all}

-- ---- at one pair
-- the cards have the same there, or they differ
abbrev pub Compared : List ℕ → List ℕ → ℕ × ℕ → Type 0
Compared a b p = (find_part a p ≡ find_part b p) ⊎ ((m : ℕ) × Changed a b p m)

pub compared : (a b : List ℕ) (p : ℕ × ℕ) → Compared a b p
compared a b p = by_found (found a p) refl (found b p) refl
  where
    by_parts : (t : Bool) → alike a b p ≡ t → found a p ≡ true → found b p ≡ true → Compared a b p
    by_parts true e u v = inl (alike_same a b p e)
    by_parts false e u v = inr (_, is_other_contents u v (λ z. true≢false (sym (same_alike a b p z) ∙ e)))

    by_found : (t : Bool) → found a p ≡ t → (s : Bool) → found b p ≡ s → Compared a b p
    by_found true u true v = by_parts (alike a b p) refl u v
    by_found true u false v = inr (_, is_only_first u v)
    by_found false u true v = inr (_, is_only_second u v)
    by_found false u false v = inl (sym (none_part a p u) ∙ none_part b p v)

module _ {a b : List ℕ} {p : ℕ × ℕ} where
  pub changed_at : {m : ℕ} → Changed a b p m → change_at a b p ≡ (p, m) ∷ []
  changed_at (is_only_first u v) = change_first a b p u v
  changed_at (is_only_second u v) = change_second a b p u v
  changed_at (is_other_contents u v n) = change_other a b p u v n

  pub changed_differ : {m : ℕ} → Changed a b p m → find_part a p ≡ find_part b p → ⊥
  changed_differ c e = cons≢nil (sym (changed_at c) ∙ change_same a b p e)

  in_range : {m : ℕ} → Changed a b p m → InRange p
  in_range (is_only_first u v) = (found_recipe a p u, found_segment a p u)
  in_range (is_only_second u v) = (found_recipe b p v, found_segment b p v)
  in_range (is_other_contents u v n) = (found_recipe a p u, found_segment a p u)

-- ---- in the list
module _ (a b : List ℕ) (p : ℕ × ℕ) where
  pub listed_exactly : (m : ℕ) → Among (p, m) (changes a b) ↔ Changed a b p m
  unfolding changes
  listed_exactly m = (
    λ w. let q = from_all (change_at a b) w in at_pair q.0 q.1 (compared a b q.0),
    λ c. in_all (change_at a b) p (in_range c) (subst (Among (p, m)) (sym (changed_at c)) (Memᴰ.head refl)),
  )
    where
      at_pair : (q : ℕ × ℕ) → Among (p, m) (change_at a b q) → Compared a b q → Changed a b p m
      at_pair q w (inl e) = absurd (Memᴰ.not-nil (subst (Among (p, m)) (change_same a b q e) w))
      at_pair q w (inr c) =
          let e = Memᴰ.eq_of_singleton (subst (Among (p, m)) (changed_at c.1) w) in
          subst (λ (x : (ℕ × ℕ) × ℕ). Changed a b x.0 x.1) (sym e) c.1

  -- a pair is listed exactly if finding it gives something else on the two cards
  pub differ_exactly : ((m : ℕ) × Among (p, m) (changes a b)) ↔ (find_part a p ≡ find_part b p → ⊥)
  differ_exactly = (λ c. changed_differ ((listed_exactly c.0).0 c.1), λ n. by_cards n (compared a b p))
    where
      by_cards : (find_part a p ≡ find_part b p → ⊥) → Compared a b p → (m : ℕ) × Among (p, m) (changes a b)
      by_cards n (inl e) = absurd (n e)
      by_cards n (inr c) = (c.0, (listed_exactly c.0).1 c.1)
