-- The records of a card, whatever their order and whatever empty slots stand among them (02, request 6).
use Rattle.std.specs.Prelude.{◌≡◌, Bool, true, not, ◌&&◌, List, [], ◌∷◌, ℕ, suc}
use Rattle.laws.specs.Choice.{choose}
use Rattle.runs.specs.Same.{same}
use Rattle.card_slots.specs.Slot.{empty}
use Rattle.card_slots.specs.Card.{slots, some, good}

-- a slot has the very record s: an empty one has none
abbrev pub has : List ℕ → List ℕ → Bool
has s slot = same s slot && not (empty slot)

abbrev pub holds : List ℕ → List ℕ → Bool
holds card s = some (has s) (slots card)

-- every record of the one card stands on the other
pub record SameRecords (a b : List ℕ) : Type 0 where
  pub there : (s : List ℕ) → holds a s ≡ true → holds b s ≡ true
  pub back : (s : List ℕ) → holds b s ≡ true → holds a s ≡ true

-- of how many in a list a test holds
abbrev pub how_many : {A : Type 0} → (A → Bool) → List A → ℕ
how_many t [] = 0
how_many t (x ∷ xs) = choose (t x) (suc (how_many t xs)) (how_many t xs)

-- a good card's filled slots in another order, with other empty slots or none: each record stands as often on the one as on the other
pub record Rearranged (a a' : List ℕ) : Type 0 where
  pub good_card : good a ≡ true
  pub good_other : good a' ≡ true
  pub as_often : (s : List ℕ) → how_many (has s) (slots a) ≡ how_many (has s) (slots a')
