-- What two cards differ in, as a list of changes, and the list's bytes (02, request 6).
use Rattle.std.specs.Prelude.{Bool, List, [], ◌∷◌, ◌++◌, ℕ, zero, suc, ◌/◌, ◌%◌}
use Rattle.laws.specs.Choice.{choose}
use Rattle.runs.specs.Same.{same}
use Rattle.card_slots.specs.Find.{found, find_part}

-- ---- one recipe's segment
-- what both cards have there is the same: the very same record, or nothing
unfoldable pub alike : List ℕ → List ℕ → ℕ × ℕ → Bool
alike a b p = same (find_part a p) (find_part b p)

abbrev pub only_first : ℕ
only_first = 1

abbrev pub only_second : ℕ
only_second = 2

abbrev pub other_contents : ℕ
other_contents = 3

-- where they aren't alike
unfoldable pub mark : List ℕ → List ℕ → ℕ × ℕ → ℕ
mark a b p = choose (found a p) (choose (found b p) other_contents only_first) only_second

-- a change is a pair of recipe and segment, with its mark. At one pair there is one, or none
unfoldable pub change_at : List ℕ → List ℕ → ℕ × ℕ → List ((ℕ × ℕ) × ℕ)
change_at a b p = choose (alike a b p) [] ((p, mark a b p) ∷ [])

-- ---- all of them
-- what f gives for k and the n - 1 numbers behind it, joined in this order
abbrev pub each : {A : Type 0} → (ℕ → List A) → ℕ → ℕ → List A
each f k zero = []
each f k (suc n) = f k ++ each f (suc k) n

unfoldable pub last_recipe : ℕ
last_recipe = 65535

unfoldable pub last_segment : ℕ
last_segment = 32

-- over all recipes and, in each, all segments, in their order
unfoldable pub changes : List ℕ → List ℕ → List ((ℕ × ℕ) × ℕ)
changes a b = each (λ r. each (λ s. change_at a b (r, s)) 1 last_segment) 1 last_recipe

-- ---- in bytes
-- recipe, segment, mark
abbrev pub bytes_of : (ℕ × ℕ) × ℕ → List ℕ
bytes_of c = c.0.0 / 256 ∷ c.0.0 % 256 ∷ c.0.1 ∷ c.1 ∷ []

abbrev pub listed : List ((ℕ × ℕ) × ℕ) → List ℕ
listed [] = []
listed (c ∷ cs) = bytes_of c ++ listed cs

unfoldable pub differences : List ℕ → List ℕ → List ℕ
differences a b = listed (changes a b)
