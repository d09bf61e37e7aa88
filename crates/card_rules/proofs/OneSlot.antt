-- A card of one slot is good exactly if the slot is legal.
use mathlib.Core.Path.{◌≡◌, refl, ap, ◌∙◌}
use mathlib.Core.Bool.{Bool, true, false, ◌&&◌, and-true}
use mathlib.Core.List.{List, [], ◌∷◌, map}
use Prim.Native.Nat.{ℕ, ◌/◌}
use native.Mathlib.Omega.{arith}
use lib.ListN.{length}
use lib.Seq.{take_all}
use Rattle.laws.specs.Choice.{choose}
use Rattle.laws.specs.Places.{tab}
use Rattle.card_slots.specs.Slot.{empty, legal, pair_of}
use Rattle.card_slots.specs.Card.{slot, slots, none_twice, pairs, good}

module _ (s : List ℕ) (l : length s ≡ 16) where
  one_slot : slots s ≡ s ∷ []
  unfolding slots
  one_slot = ap (λ (n : ℕ). tab (n / 16) (slot s)) l ∙ ap (λ (x : List ℕ). x ∷ []) (take_all 16 s (omega arith))

  one_pair : none_twice (pairs (s ∷ [])) ≡ true
  one_pair = by_empty (empty s)
    where
      by_empty : (b : Bool) → none_twice (map pair_of (choose b [] (s ∷ []))) ≡ true
      by_empty true = refl
      by_empty false = refl

  pub one_slot_good : good s ≡ legal s
  unfolding good
  one_slot_good = rw (l, one_slot, one_pair) (and-true (legal s && true) ∙ and-true (legal s))
