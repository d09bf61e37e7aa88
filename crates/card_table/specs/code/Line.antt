-- The first line of a text, which is cut off at a line feed.
use Rattle.std.specs.Prelude.{List, [], ◌∷◌, ℕ, eqb}
use Rattle.laws.specs.Choice.{choose}

abbrev pub line_of : List ℕ → List ℕ
line_of [] = []
line_of (c ∷ t) = choose (eqb c 10) [] (c ∷ line_of t)
