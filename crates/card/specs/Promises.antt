-- What each call promises, on any input: all that it returns, and every byte of the card.
use Rattle.std.specs.Prelude.{◌≡◌, Bool, List, ℕ}
use Rattle.std.specs.Borrow.{Bor}
use Rattle.card_slots.specs.Card.{good}
use Rattle.card_slots.specs.Find.{find_part, find_at, Part}
use Rattle.card.specs.Put.{put_answer, put_card}

-- whether the card is good is r
pub record Judges (card : List ℕ) (r : Bool) : Type 0 where
  pub answered : r ≡ good card

-- finding a recipe's segment on a lent card hands this part of it back
pub record Finds (card : Bor (List ℕ)) (recipe segment : ℕ) (part : Bor (List ℕ)) : Type 0 where
  pub handed : Part card (find_at card.now (recipe, segment)) (find_part card.now (recipe, segment)) part

-- putting the record r answers n and leaves card'
pub record Puts (card r : List ℕ) (n : ℕ) (card' : List ℕ) : Type 0 where
  pub answered : n ≡ put_answer card r
  pub left : card' ≡ put_card card r
