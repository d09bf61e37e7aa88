-- The list is empty exactly if the cards hold the same records.
use mathlib.Core.Path.{◌≡◌, subst}
use mathlib.Core.Bool.{true}
use mathlib.Core.Logic.{◌↔◌, inl, inr}
use mathlib.Core.List.Memᴰ
use mathlib.Core.List.{List, []}
use Prim.Native.Nat.{ℕ}
use Rattle.card_slots.specs.Card.{good}
use Rattle.card_slots.specs.Find.{find_part}
use Rattle.card_compare.specs.Compare.{change_at, changes}
use Rattle.card_compare.proofs.Marks.{change_same}
use Rattle.card_compare_laws.specs.Changes.{Among}
use Rattle.card_compare_laws.specs.Records.{SameRecords}
use Rattle.card_compare_laws.proofs.AllPairs.{all_nothing}
use Rattle.card_compare_laws.proofs.Exact.{Compared, compared, listed_exactly}
use Rattle.card_compare_laws.proofs.Records.{same_records, same_parts}

module _ (a b : List ℕ) where
  -- on any two cards, exactly if every find gives the same
  pub none_exactly : (changes a b ≡ []) ↔ ((p : ℕ × ℕ) → find_part a p ≡ find_part b p)
  unfolding changes
  none_exactly = (λ e p. by_cards e p (compared a b p), λ h. all_nothing (change_at a b) (λ p. change_same a b p (h p)))
    where
      by_cards : changes a b ≡ [] → (p : ℕ × ℕ) → Compared a b p → find_part a p ≡ find_part b p
      by_cards e p (inl s) = s
      by_cards e p (inr c) = absurd (Memᴰ.not-nil (subst (Among (p, c.0)) e ((listed_exactly a b p c.0).1 c.1)))

  pub same_exactly : good a ≡ true → good b ≡ true → (changes a b ≡ []) ↔ SameRecords a b
  same_exactly ga gb = (λ e. same_records a b ga gb (none_exactly.0 e), λ r. none_exactly.1 (same_parts a b ga gb r))
