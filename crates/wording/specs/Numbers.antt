-- Numbers as texts (docs/BENCH.md, 'Numbers'). Characters are ASCII numbers: point 46.
use Rattle.std.specs.Prelude.{List, [], ◌∷◌, ◌++◌, ℕ, zero, suc, ◌+◌, ◌/◌, ◌%◌, ltb}
use Rattle.laws.specs.Choice.{choose}

abbrev pub digit : ℕ → ℕ
digit d = 48 + d

-- in decimal digits without leading zeros, at most n + 1 of them
abbrev pub at_most : ℕ → ℕ → List ℕ
at_most zero x = digit (x % 10) ∷ []
at_most (suc n) x = choose (ltb x 10) (digit x ∷ []) (at_most n (x / 10) ++ digit (x % 10) ∷ [])

-- of 64 bits
unfoldable pub decimal : ℕ → List ℕ
decimal x = at_most 19 x

-- a number of tenths
unfoldable pub in_tenths : ℕ → List ℕ
in_tenths x = decimal (x / 10) ++ 46 ∷ decimal (x % 10)
