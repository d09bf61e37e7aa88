-- A recipe card: a run of slots, the pairs that stand on it, and when it is good (02, request 1).
use Rattle.std.specs.Prelude.{Bool, true, false, not, ◌&&◌, ◌||◌, List, [], ◌∷◌, map, ℕ, ◌*◌, ◌/◌, ◌%◌, eqb, leb, length, take, drop}
use Rattle.laws.specs.Choice.{choose}
use Rattle.laws.specs.Places.{tab}
use Rattle.card_slots.specs.Slot.{empty, legal, pair_of}

-- ---- the slots, numbered from 0
abbrev pub slot : List ℕ → ℕ → List ℕ
slot card i = take 16 (drop (i * 16) card)

unfoldable pub slots : List ℕ → List (List ℕ)
slots card = tab (length card / 16) (slot card)

-- ---- of every slot, or of some slot, a test holds
abbrev pub every : {A : Type 0} → (A → Bool) → List A → Bool
every t [] = true
every t (x ∷ xs) = t x && every t xs

abbrev pub some : {A : Type 0} → (A → Bool) → List A → Bool
some t [] = false
some t (x ∷ xs) = t x || some t xs

-- ---- the pairs
abbrev pub same_pair : ℕ × ℕ → ℕ × ℕ → Bool
same_pair p q = eqb p.0 q.0 && eqb p.1 q.1

-- the slots that aren't empty, in their order, and their pairs
abbrev pub filled : List (List ℕ) → List (List ℕ)
filled [] = []
filled (s ∷ ss) = choose (empty s) (filled ss) (s ∷ filled ss)

abbrev pub pairs : List (List ℕ) → List (ℕ × ℕ)
pairs ss = map pair_of (filled ss)

abbrev pub none_twice : List (ℕ × ℕ) → Bool
none_twice [] = true
none_twice (p ∷ ps) = not (some (same_pair p) ps) && none_twice ps

-- ---- a good card
unfoldable pub good : List ℕ → Bool
good card =
    eqb (length card % 16) 0 && leb (length card) 4096 && every legal (slots card) && none_twice (pairs (slots card))
