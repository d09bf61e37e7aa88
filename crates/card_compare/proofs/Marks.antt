-- What stands in the list for one pair: one law for each outcome.
use mathlib.Core.Path.{◌≡◌, sym, ap, ◌∙◌, subst}
use mathlib.Core.Bool.{true, false, true≢false}
use mathlib.Core.List.{List, [], ◌∷◌}
use Prim.Native.Nat.{ℕ}
use Rattle.laws.proofs.Test.{fails}
use Rattle.runs.specs.Same.{same}
use Rattle.runs.proofs.Same.{same_self, same_is}
use Rattle.card_slots.specs.Slot.{empty}
use Rattle.card_slots.specs.Find.{found, find_part}
use Rattle.card.proofs.Answers.{none_part}
use Rattle.card_laws.proofs.Find.{found_filled}
use Rattle.card_compare.specs.Compare.{alike, mark, change_at, only_first, only_second, other_contents}

-- a pair found on one card only: what is found isn't an empty part
found_differ : (a b : List ℕ) (p : ℕ × ℕ) → found a p ≡ true → found b p ≡ false → find_part a p ≡ find_part b p → ⊥
unfolding empty
found_differ a b p u v e = true≢false (sym (ap empty (e ∙ sym (none_part b p v))) ∙ found_filled a p u)

module _ (a b : List ℕ) (p : ℕ × ℕ) where
  -- ---- alike exactly if both have the same there
  pub alike_same : alike a b p ≡ true → find_part a p ≡ find_part b p
  unfolding alike
  alike_same e = same_is (find_part a p) (find_part b p) e

  pub same_alike : find_part a p ≡ find_part b p → alike a b p ≡ true
  unfolding alike
  same_alike e = subst (λ (l : List ℕ). same (find_part a p) l ≡ true) e (same_self (find_part a p))

  pub other_alike : (find_part a p ≡ find_part b p → ⊥) → alike a b p ≡ false
  other_alike n = fails (alike a b p) (λ e. n (alike_same e))

  -- ---- the outcomes
  pub change_same : find_part a p ≡ find_part b p → change_at a b p ≡ []
  unfolding change_at
  change_same e = rw (same_alike e)

  differ : (find_part a p ≡ find_part b p → ⊥) → change_at a b p ≡ (p, mark a b p) ∷ []
  unfolding change_at
  differ n = rw (other_alike n)

  pub change_none : found a p ≡ false → found b p ≡ false → change_at a b p ≡ []
  change_none u v = change_same (sym (none_part a p u) ∙ none_part b p v)

  pub change_first : found a p ≡ true → found b p ≡ false → change_at a b p ≡ (p, only_first) ∷ []
  unfolding mark
  change_first u v = differ (found_differ a b p u v) ∙ rw (u, v)

  pub change_second : found a p ≡ false → found b p ≡ true → change_at a b p ≡ (p, only_second) ∷ []
  unfolding mark
  change_second u v = differ (λ e. found_differ b a p v u (sym e)) ∙ rw u

  pub change_other : found a p ≡ true → found b p ≡ true → (find_part a p ≡ find_part b p → ⊥) → change_at a b p ≡ (p, other_contents) ∷ []
  unfolding mark
  change_other u v n = differ n ∙ rw (u, v)
