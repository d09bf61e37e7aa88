-- The example of 02, request 6, on cards in other slot orders and with an empty slot.
use mathlib.Core.Path.{◌≡◌, refl, sym, ap, ◌∙◌}
use mathlib.Core.Bool.{Bool, true, false, ◌||◌, true≢false}
use mathlib.Core.List.{List, [], ◌∷◌, ◌++◌}
use Prim.Native.Nat.{ℕ, ◌+◌, ◌≤◌, ◌<◌}
use native.Mathlib.Omega.{arith}
use native.Mathlib.Nat.{div-add-mod'}
use lib.Dec.{leb, ltb}
use lib.ListN.{replicate}
use borrow.Author.Tests.{le-ltb, lt-leb}
use Rattle.card_slots.specs.Slot.{empty, keeps_rules, pair_of}
use Rattle.card_slots.specs.Card.{slots, every, good}
use Rattle.card_slots.specs.Find.{place, named, found, find_part}
use Rattle.laws.proofs.Test.{fails}
use Rattle.card_slots.proofs.Twice.{every_at}
use Rattle.card_laws.proofs.Find.{found_inside, part_is, found_pair, found_filled}
use Rattle.card_compare.specs.Compare.{alike, mark, change_at, listed, differences}
use Rattle.card_compare.proofs.Numbers.{pair_at, number_of, left, left_all, left_end, left_next}

-- ---- the next number, computed: a slot is empty, or its number is under k or not under x
abbrev beside : ℕ → ℕ → List ℕ → Bool
beside k x s = empty s || ltb (number_of (pair_of s)) k || leb x (number_of (pair_of s))

absent : (card : List ℕ) (k x : ℕ) → every (beside k x) (slots card) ≡ true → (j : ℕ) → k ≤ j → j < x → found card (pair_at j) ≡ false
absent card k x e j l u = fails (found card (pair_at j)) here
  where
    number : found card (pair_at j) ≡ true → number_of (pair_of (find_part card (pair_at j))) ≡ j
    number f = ap number_of (found_pair card (pair_at j) f) ∙ div-add-mod' j 256

    not_beside : (f : found card (pair_at j) ≡ true) → beside k x (find_part card (pair_at j)) ≡ false
    not_beside f =
        let n = number f in
        let s = find_part card (pair_at j) in
        rw (found_filled card (pair_at j) f, le-ltb (number_of (pair_of s)) k (omega arith), lt-leb x (number_of (pair_of s)) (omega arith))

    here : found card (pair_at j) ≡ true → ⊥
    here f =
        true≢false (sym (every_at (beside k x) (slots card) (place (named (pair_at j)) (slots card)) e (found_inside card (pair_at j) f))
        ∙ ap (beside k x) (sym (part_is card (pair_at j) f)) ∙ not_beside f)

step : (a b : List ℕ) (k x : ℕ) → k ≤ x → x < 16777216 → every (beside k x) (slots a) ≡ true → every (beside k x) (slots b) ≡ true
    → {cs : List ((ℕ × ℕ) × ℕ)} → left a b (x + 1) ≡ cs → left a b k ≡ change_at a b (pair_at x) ++ cs
step a b k x l u e f r =
    left_next a b k x l u (absent a k x e) (absent b k x f) ∙ ap (λ (cs : List ((ℕ × ℕ) × ℕ)). change_at a b (pair_at x) ++ cs) r

-- ---- the two cards: (1, 1) and (1, 2); (1, 2) with another target and (2, 1)
abbrev record_of : ℕ → ℕ → ℕ → List ℕ
record_of r s t = 0 ∷ r ∷ s ∷ 1 ∷ 0 ∷ t ∷ replicate 10 0

abbrev first : List ℕ
first = record_of 1 2 7 ++ replicate 16 0 ++ record_of 1 1 7

abbrev second : List ℕ
second = record_of 2 1 7 ++ record_of 1 2 8

all_changes : left first second 0 ≡ ((1, 1), 1) ∷ ((1, 2), 3) ∷ ((2, 1), 2) ∷ []
unfolding good slots empty keeps_rules named found find_part alike mark change_at
all_changes =
    step first second 0 257 (omega arith) (omega arith) refl refl
    (step first second 258 258 (omega arith) (omega arith) refl refl
    (step first second 259 513 (omega arith) (omega arith) refl refl
    (step first second 514 16777215 (omega arith) (omega arith) refl refl (left_end first second 16777216 (omega arith)))))

pub whole_list : differences first second ≡ 0 ∷ 1 ∷ 1 ∷ 1 ∷ 0 ∷ 1 ∷ 2 ∷ 3 ∷ 0 ∷ 2 ∷ 1 ∷ 2 ∷ []
unfolding differences
whole_list = ap listed (sym (left_all first second) ∙ all_changes)
