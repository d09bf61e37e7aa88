-- Blank keys: 02, request 7.
use Rattle.std.specs.Prelude.{Bool, true, List, [], ◌∷◌, ℕ}
use Rattle.runs.specs.All.{all}

-- a key whose bytes are all equal: each is the first
unfoldable pub blank : List ℕ → Bool
blank [] = true
blank (x ∷ xs) = all x xs
