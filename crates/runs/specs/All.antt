-- Bytes that are all the same one.
use Rattle.std.specs.Prelude.{Bool, true, false, List, [], ◌∷◌, ℕ, eqb}
use Rattle.laws.specs.Choice.{choose}

-- every byte is b
abbrev pub all : (b : ℕ) → List ℕ → Bool
all b [] = true
all b (x ∷ xs) = choose (eqb x b) (all b xs) false
