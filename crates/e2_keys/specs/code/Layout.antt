-- How the code's words hold the definitions' four sub-blocks, and how it puts bytes into the round keys.
use Rattle.std.specs.Prelude.{List, [], ◌∷◌, ℕ, ◌+◌, set}
use Rattle.e2_steps.specs.code.Layout.{pair_bytes}
use Rattle.e2_keys.specs.declared.Four.{Four}

abbrev pub four_halves : Four → List (List ℕ)
four_halves x = pair_bytes x.x0 ∷ pair_bytes x.x1 ∷ pair_bytes x.x2 ∷ pair_bytes x.x3 ∷ []

-- a list with values put in at n, n + 32, ..
abbrev pub apart : List ℕ → ℕ → List ℕ → List ℕ
apart r n [] = r
apart r n (x ∷ xs) = apart (set r n x) (n + 32) xs
