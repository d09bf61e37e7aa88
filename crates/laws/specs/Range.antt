-- A range of numbers, both ends included.
use Rattle.std.specs.Prelude.{Bool, ◌&&◌, ℕ, leb}

abbrev pub within : ℕ → ℕ → ℕ → Bool
within low high n = leb low n && leb n high
