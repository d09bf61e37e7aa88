-- A word in capital or small letters (docs/BENCH.md, 'The table'). Characters are ASCII numbers.
use Rattle.std.specs.Prelude.{Bool, List, map, ℕ, ◌+◌}
use Rattle.laws.specs.Choice.{choose}
use Rattle.runs.specs.Same.{same}
use Rattle.laws.specs.Range.{within}

-- A to Z is made small, and every other character stays
unfoldable pub small : ℕ → ℕ
small c = choose (within 65 90 c) (c + 32) c

-- the word, its capitals made small, is the name
abbrev pub spells : List ℕ → List ℕ → Bool
spells word name = same (map small word) name
