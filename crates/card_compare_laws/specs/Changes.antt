-- What a change says of the two cards, how the list is sorted, and what a change becomes if the cards are exchanged (02, request 6).
use Rattle.std.specs.Prelude.{◌≡◌, Bool, true, false, ◌&&◌, ◌||◌, ℕ, eqb, ltb}
use mathlib.Core.List.{List, [], ◌∷◌, map, Memᴰ}
use Rattle.laws.specs.Choice.{choose}
use Rattle.card_slots.specs.Card.{every}
use Rattle.card_slots.specs.Find.{found, find_part}
use Rattle.card_compare.specs.Compare.{only_first, only_second, other_contents}

-- ---- what it says
abbrev pub Among : (ℕ × ℕ) × ℕ → List ((ℕ × ℕ) × ℕ) → Type 0
Among c cs = Memᴰ c cs

-- the cards a and b differ at the pair p, and this is the right mark
pub data Changed (a b : List ℕ) (p : ℕ × ℕ) : ℕ → Type 0 where
  is_only_first : found a p ≡ true → found b p ≡ false → Changed a b p only_first
  is_only_second : found a p ≡ false → found b p ≡ true → Changed a b p only_second
  is_other_contents : found a p ≡ true → found b p ≡ true → (find_part a p ≡ find_part b p → ⊥) → Changed a b p other_contents

-- ---- the order
-- by recipe, then segment
abbrev pub before : ℕ × ℕ → ℕ × ℕ → Bool
before p q = ltb p.0 q.0 || eqb p.0 q.0 && ltb p.1 q.1

-- each change is before every later one
abbrev pub sorted : List ((ℕ × ℕ) × ℕ) → Bool
sorted [] = true
sorted (c ∷ cs) = every (λ d. before c.0 d.0) cs && sorted cs

abbrev pub pairs_of : List ((ℕ × ℕ) × ℕ) → List (ℕ × ℕ)
pairs_of cs = map (λ c. c.0) cs

-- ---- the cards exchanged
abbrev pub exchanged : (ℕ × ℕ) × ℕ → (ℕ × ℕ) × ℕ
exchanged c = (c.0, choose (eqb c.1 only_first) only_second (choose (eqb c.1 only_second) only_first c.1))
