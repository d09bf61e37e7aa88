-- Putting one record on a copy of a card lists its pair alone, or nothing.
use mathlib.Core.Path.{◌≡◌, refl, sym, ap, ◌∙◌}
use mathlib.Core.Bool.{Bool, true, false}
use mathlib.Core.List.{List, [], ◌∷◌}
use Prim.Native.Nat.{ℕ}
use Rattle.laws.specs.Choice.{choose}
use Rattle.refusals.specs.Refusals.{done}
use Rattle.card_slots.specs.Slot.{pair_of}
use Rattle.card_slots.specs.Find.{found, find_part}
use Rattle.card.specs.Put.{put_answer, put_card}
use Rattle.card_laws.proofs.Find.{found_recipe, found_segment}
use Rattle.card_laws.proofs.Put.{put_others, put_found, refused_kept}
use Rattle.card_compare.specs.Compare.{change_at, changes, only_second, other_contents}
use Rattle.card_compare.proofs.Marks.{change_same, change_second, change_other}
use Rattle.card_compare_laws.proofs.AllPairs.{all_only}
use Rattle.card_compare_laws.proofs.Same.{none_exactly}

module _ (card r : List ℕ) where
  pub refused_none : (put_answer card r ≡ done → ⊥) → changes card (put_card card r) ≡ []
  refused_none n = (none_exactly card (put_card card r)).1 (λ p. ap (λ (c : List ℕ). find_part c p) (sym (refused_kept card r n)))

  module _ (z : put_answer card r ≡ done) where
    at_its_pair : changes card (put_card card r) ≡ change_at card (put_card card r) (pair_of r)
    unfolding changes
    at_its_pair =
        let e = (put_found card r z).0 in
        all_only (change_at card (put_card card r)) (pair_of r) (found_recipe (put_card card r) (pair_of r) e, found_segment (put_card card r) (pair_of r) e)
        (λ q n. change_same card (put_card card r) q (sym (put_others card r q n).1))

    -- the very record stood there already
    pub again_none : find_part card (pair_of r) ≡ r → changes card (put_card card r) ≡ []
    again_none e = at_its_pair ∙ change_same card (put_card card r) (pair_of r) (e ∙ sym (put_found card r z).1)

    -- anything else, or nothing, stood there
    pub put_one : (find_part card (pair_of r) ≡ r → ⊥)
        → changes card (put_card card r) ≡ (pair_of r, choose (found card (pair_of r)) other_contents only_second) ∷ []
    put_one n = at_its_pair ∙ by_found (found card (pair_of r)) refl
      where
        by_found : (t : Bool) → found card (pair_of r) ≡ t → change_at card (put_card card r) (pair_of r) ≡ (pair_of r, choose t other_contents only_second) ∷ []
        by_found true e = change_other card (put_card card r) (pair_of r) e (put_found card r z).0 (λ w. n (w ∙ (put_found card r z).1))
        by_found false e = change_second card (put_card card r) (pair_of r) e (put_found card r z).0
