-- Bytes that are all zero.
use Rattle.std.specs.Prelude.{Bool, List, ℕ}
use Rattle.runs.specs.All.{all}

-- every byte is zero
abbrev pub zeros : List ℕ → Bool
zeros = all 0
