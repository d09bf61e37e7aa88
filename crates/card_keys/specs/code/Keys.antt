-- The filled slots of a card by recipe, then segment: a key for each, and what a list of keys tells.
use Rattle.std.specs.Prelude.{◌≡◌, Bool, true, false, List, [], ◌∷◌, ℕ, suc, ◌+◌, ◌*◌, ◌/◌, ◌≤◌, ◌<◌, ltb, length, get_or, take}
use Rattle.laws.specs.Choice.{choose}
use Rattle.sorting.specs.Sorted.{Sorted}
use Rattle.card_slots.specs.Slot.{recipe, segment}
use Rattle.card_slots.specs.Card.{slots}

-- recipe and segment as one number, and the slot's own number behind it
abbrev pub key_of : List ℕ → ℕ → ℕ
key_of s i = (recipe s * 256 + segment s) * 256 + i

-- the keys of slots that are numbered from i on; one with recipe 0 and segment 0, as an empty one, has none
abbrev pub keys_from : ℕ → List (List ℕ) → List ℕ
keys_from i [] = []
keys_from i (s ∷ ss) = choose (ltb (key_of s i) 256) (keys_from (suc i) ss) (key_of s i ∷ keys_from (suc i) ss)

-- the first n of `keys` are the card's, in order
pub record InOrder (card keys : List ℕ) (n : ℕ) : Type 0 where
  pub few : n ≤ 256
  pub sorted : Sorted (keys_from 0 (slots card)) (take n keys)

-- two neighbours with the same pair
abbrev pub Neighbours : List ℕ → ℕ → Type 0
Neighbours keys u = (u + 1 < length keys) × (get_or keys u 0 / 256 ≡ get_or keys (u + 1) 0 / 256)

-- whether there are none is r
pub record Apart (keys : List ℕ) (r : Bool) : Type 0 where
  pub yes : r ≡ true → (u : ℕ) → Neighbours keys u → ⊥
  pub no : r ≡ false → (u : ℕ) × Neighbours keys u
