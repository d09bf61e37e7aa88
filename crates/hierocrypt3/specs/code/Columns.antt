-- XS and the rounds as the code takes them: a column at a time, with the round keys read where they stand, and the rounds by their numbers.
use Rattle.std.specs.Prelude.{List, ℕ, ◌+◌, ltb, get_or}
use Rattle.std.specs.Int.Bits.{bit_xor}
use Rattle.laws.specs.Choice.{choose}
use Rattle.laws.specs.Places.{tab}
use Rattle.hierocrypt3_tables.specs.Operations.{mds_l, mds_l⁻}
use Rattle.hierocrypt3_steps.specs.Operations.{MDSH⁻}
use Rattle.hierocrypt3_steps.specs.code.Columns.{s_column, s_column⁻}
use Rattle.hierocrypt3.specs.Block.{XS, XS⁻, ρ, round_key}

-- ---- XS on one column
-- a column xored with the four bytes of the keys from `at` on
unfoldable pub key_column : List ℕ → ℕ → List ℕ → List ℕ
key_column keys at x = tab 4 (λ j. bit_xor (get_or x j 0) (get_or keys (at + j) 0))

abbrev pub xs_column : List ℕ → ℕ → List ℕ → List ℕ
xs_column keys at x = s_column (key_column keys (at + 16) (mds_l (s_column (key_column keys at x))))

abbrev pub xs_column⁻ : List ℕ → ℕ → List ℕ → List ℕ
xs_column⁻ keys at x = key_column keys at (s_column⁻ (mds_l⁻ (key_column keys (at + 16) (s_column⁻ x))))

-- ---- round i + 1 of n + 1: the last has no MDS_H
abbrev pub round_at : List ℕ → ℕ → ℕ → List (List ℕ) → List (List ℕ)
round_at keys n i x = choose (ltb i n) (ρ (round_key keys (i + 1)) x) (XS (round_key keys (i + 1)) x)

abbrev pub round_at⁻ : List ℕ → ℕ → ℕ → List (List ℕ) → List (List ℕ)
round_at⁻ keys n i x = XS⁻ (round_key keys (i + 1)) (choose (ltb i n) (MDSH⁻ x) x)
