-- The sentences of 02, request 1, on small cards: antt computes each.
use mathlib.Core.Path.{◌≡◌, refl}
use mathlib.Core.Bool.{true, false}
use mathlib.Core.List.{List, [], ◌∷◌, ◌++◌}
use Prim.Native.Nat.{ℕ}
use lib.ListN.{replicate}
use Rattle.card_slots.specs.Slot.{empty, keeps_rules, good_record}
use Rattle.card_slots.specs.Card.{slots, good}
use Rattle.card_slots.specs.Find.{named, found, find_part, find_at}
use Rattle.card.specs.Put.{goes_to, nowhere, put_answer, put_card}

-- ---- slots
abbrev blank : List ℕ
blank = replicate 16 0

-- recipe 258, segment 7: climb to 1,350.0 degrees at 150.0 an hour
abbrev climb : List ℕ
climb = 1 ∷ 2 ∷ 7 ∷ 1 ∷ 52 ∷ 188 ∷ 5 ∷ 220 ∷ 0 ∷ 0 ∷ replicate 6 0

-- its namesake: hold 60 minutes
abbrev hold : List ℕ
hold = 1 ∷ 2 ∷ 7 ∷ 2 ∷ 52 ∷ 188 ∷ 0 ∷ 0 ∷ 0 ∷ 60 ∷ replicate 6 0

-- the climb, a tenth of a degree too hot
abbrev hotter : List ℕ
hotter = 1 ∷ 2 ∷ 7 ∷ 1 ∷ 52 ∷ 189 ∷ 5 ∷ 220 ∷ 0 ∷ 0 ∷ replicate 6 0

-- recipe 65,535, segment 32, a drop with the highest rate and hold
abbrev highest : List ℕ
highest = 255 ∷ 255 ∷ 32 ∷ 3 ∷ 52 ∷ 188 ∷ 255 ∷ 255 ∷ 255 ∷ 255 ∷ replicate 6 0

-- ---- cards
-- a card of no bytes is good
no_bytes : good [] ≡ true
unfolding good slots empty keeps_rules
no_bytes = refl

-- a length that isn't a multiple of 16 makes a card bad
half_a_slot : good (replicate 8 0) ≡ false
unfolding good slots empty keeps_rules
half_a_slot = refl

-- and so does one over 4,096
slot_257 : good (replicate 4112 0) ≡ false
unfolding good slots empty keeps_rules
slot_257 = refl

-- an all-zero slot is empty
all_blank : good (blank ++ blank) ≡ true
unfolding good slots empty keeps_rules
all_blank = refl

-- any rate and any hold is fine
all_fine : good (blank ++ climb ++ highest) ≡ true
unfolding good slots empty keeps_rules
all_fine = refl

-- a slot that breaks the rules makes a card bad
too_hot : good (blank ++ hotter) ≡ false
unfolding good slots empty keeps_rules
too_hot = refl

-- and so does a pair that stands twice
twice : good (climb ++ blank ++ hold) ≡ false
unfolding good slots empty keeps_rules
twice = refl

-- ---- finding
-- the very slot: its bytes, and where it begins
found_second : (find_part (blank ++ climb) (258, 7) ≡ climb) × (find_at (blank ++ climb) (258, 7) ≡ 16)
unfolding good slots empty keeps_rules named found find_part find_at
found_second = (refl, refl)

-- an empty part if there is none
none_such : find_part (blank ++ climb) (258, 8) ≡ []
unfolding good slots empty keeps_rules named found find_part
none_such = refl

-- or the card is bad
on_a_bad_card : find_part (climb ++ hotter) (258, 7) ≡ []
unfolding good slots empty keeps_rules named found find_part
on_a_bad_card = refl

-- an empty slot is not found under recipe 0
blank_not_found : find_part (blank ++ climb) (0, 0) ≡ []
unfolding good slots empty keeps_rules named found find_part
blank_not_found = refl

-- ---- putting
-- a record replaces its namesake, although an empty slot stands before it
namesake_first : put_card (blank ++ climb) hold ≡ blank ++ hold
unfolding good slots empty keeps_rules named good_record goes_to nowhere put_answer put_card
namesake_first = refl

-- else it takes the first empty slot
first_blank : put_card (highest ++ blank ++ blank) hold ≡ highest ++ hold ++ blank
unfolding good slots empty keeps_rules named good_record goes_to nowhere put_answer put_card
first_blank = refl

-- 14: no empty slot and no namesake; a card of no bytes has neither
no_slot : (put_answer highest hold ≡ 14) × (put_answer [] hold ≡ 14)
unfolding good slots empty keeps_rules named good_record goes_to nowhere put_answer
no_slot = (refl, refl)

-- 13: a record that is all zero, breaks the rules or isn't 16 bytes
bad_record_lem : (put_answer highest blank ≡ 13) × (put_answer blank hotter ≡ 13) × (put_answer blank (0 ∷ hold) ≡ 13)
unfolding good slots empty keeps_rules named good_record goes_to nowhere put_answer
bad_record_lem = (refl, refl, refl)

-- 12 comes before 13
card_before_record : put_answer (climb ++ hold) blank ≡ 12
unfolding good slots empty keeps_rules named good_record goes_to nowhere put_answer
card_before_record = refl
