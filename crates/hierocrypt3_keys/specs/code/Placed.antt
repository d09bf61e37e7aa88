-- How the code lays the round keys out: pieces of eight bytes, put where they belong, the rest left as it was.
use Rattle.std.specs.Prelude.{◌≡◌, List, ◌++◌, ℕ, ◌+◌, ◌≤◌, ◌<◌, length, get_or}
use Rattle.hierocrypt3_keys.specs.declared.RoundKey.{RoundKey}

-- the n bytes of k stand in `after` from `at` on, and all else is as in `before`
pub record Placed (at n : ℕ) (k before after : List ℕ) : Type 0 where
  pub long : length after ≡ length before
  pub there : (j : ℕ) → j < n → get_or after (at + j) 0 ≡ get_or k j 0
  pub below : (j : ℕ) → j < at → get_or after j 0 ≡ get_or before j 0
  pub above : (j : ℕ) → at + n ≤ j → get_or after j 0 ≡ get_or before j 0

-- a round key's four pieces
abbrev pub pieces : RoundKey → List ℕ
pieces k = k.k1 ++ k.k2 ++ k.k3 ++ k.k4
