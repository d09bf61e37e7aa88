-- Two runs of m bytes in the other order.
use Rattle.std.specs.Prelude.{List, ◌++◌, ℕ}
use Rattle.laws.specs.Places.{part}

abbrev pub exchanged : ℕ → List ℕ → List ℕ
exchanged m x = part 0 m m x ++ part 0 0 m x
