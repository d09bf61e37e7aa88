-- Finding a recipe's segment: which slot has the pair, and the part of the card that is handed back (02, request 1).
use Rattle.std.specs.Prelude.{◌≡◌, Bool, not, ◌&&◌, List, [], ◌∷◌, ℕ, suc, ◌+◌, ◌*◌, get_or}
use Rattle.std.specs.Borrow.{Bor}
use Rattle.laws.specs.Choice.{choose}
use Rattle.card_slots.specs.Slot.{empty, pair_of}
use Rattle.card_slots.specs.Card.{slots, some, same_pair, good}

-- the number of the first slot of which a test holds, or the number of slots where it holds of none
abbrev pub place : (List ℕ → Bool) → List (List ℕ) → ℕ
place t [] = 0
place t (s ∷ ss) = choose (t s) 0 (suc (place t ss))

-- a slot has the pair: an empty one has none
unfoldable pub named : ℕ × ℕ → List ℕ → Bool
named p s = same_pair p (pair_of s) && not (empty s)

unfoldable pub found : List ℕ → ℕ × ℕ → Bool
found card p = good card && some (named p) (slots card)

-- the bytes of the part, and the place of the card at which it begins
unfoldable pub find_part : List ℕ → ℕ × ℕ → List ℕ
find_part card p = choose (found card p) (get_or (slots card) (place (named p) (slots card)) []) []

unfoldable pub find_at : List ℕ → ℕ × ℕ → ℕ
find_at card p = choose (found card p) (place (named p) (slots card) * 16) 0

-- a part of a lent slice: that it lies in the slice's own memory and begins at that place of it, and its bytes
pub record Part (whole : Bor (List ℕ)) (from : ℕ) (bytes : List ℕ) (part : Bor (List ℕ)) : Type 0 where
  pub inside : part.ref_ptr.0 ≡ whole.ref_ptr.0
  pub begins : part.ref_ptr.1 ≡ whole.ref_ptr.1 + from
  pub holds : part.now ≡ bytes
