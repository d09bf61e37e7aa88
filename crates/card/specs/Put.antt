-- Putting a record: the answer, and the card afterwards (02, request 1).
use Rattle.std.specs.Prelude.{Bool, not, ◌&&◌, List, ◌++◌, ℕ, ◌+◌, ◌*◌, eqb, take, drop}
use Rattle.laws.specs.Choice.{choose}
use Rattle.refusals.specs.Refusals.{done, put_order}
use Rattle.card_slots.specs.Slot.{empty, good_record, pair_of}
use Rattle.card_slots.specs.Card.{slots, some, good}
use Rattle.card_slots.specs.Find.{place, named}

-- a slot is the record's namesake
abbrev pub namesake : List ℕ → List ℕ → Bool
namesake r = named (pair_of r)

-- the number of the slot that a record goes to: its namesake's, else the first empty one's
unfoldable pub goes_to : List (List ℕ) → List ℕ → ℕ
goes_to ss r = choose (some (namesake r) ss) (place (namesake r) ss) (place empty ss)

-- no empty slot and no namesake
unfoldable pub nowhere : List (List ℕ) → List ℕ → Bool
nowhere ss r = not (some empty ss) && not (some (namesake r) ss)

unfoldable pub put_answer : List ℕ → List ℕ → ℕ
put_answer card r = put_order (not (good card)) (not (good_record r)) (nowhere (slots card) r)

-- the card with the record in slot i
abbrev pub written : List ℕ → ℕ → List ℕ → List ℕ
written card i r = take (i * 16) card ++ r ++ drop (i * 16 + 16) card

unfoldable pub put_card : List ℕ → List ℕ → List ℕ
put_card card r = choose (eqb (put_answer card r) done) (written card (goes_to (slots card) r) r) card
