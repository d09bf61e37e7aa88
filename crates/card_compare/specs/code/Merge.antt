-- Two lists of keys gone through together: what stands next on each, and the mark.
use Rattle.std.specs.Prelude.{List, ℕ, ◌/◌, ◌%◌, ltb, length, get_or}
use Rattle.laws.specs.Choice.{choose}
use Rattle.runs.specs.Same.{same}
use Rattle.card_slots.specs.Card.{slot}
use Rattle.card_compare.specs.Compare.{only_first, only_second, other_contents}

-- the pair of key i as a number, and behind the last key one that no pair has
abbrev pub number_at : List ℕ → ℕ → ℕ
number_at keys i = choose (ltb i (length keys)) (get_or keys i 0 / 256) 16777216

-- the slot of key i
abbrev pub slot_at : List ℕ → List ℕ → ℕ → List ℕ
slot_at card keys i = slot card (get_or keys i 0 % 256)

-- the mark of the lesser of the next two, or 0 where there is no change
abbrev pub mark_at : List ℕ → List ℕ → List ℕ → List ℕ → ℕ → ℕ → ℕ
mark_at first second a b i j =
    choose (ltb (number_at a i) (number_at b j)) only_first
    (choose (ltb (number_at b j) (number_at a i)) only_second
    (choose (same (slot_at first a i) (slot_at second b j)) 0 other_contents))
