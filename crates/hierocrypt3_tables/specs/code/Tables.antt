-- What the code's tables hold: s and its inverse at every byte (002, section 3.6), and a byte's products with the first column of mds_L and of its inverse
-- (section 3.7).
use Rattle.std.specs.Prelude.{List, [], ℕ, get_or}
use Rattle.laws.specs.Places.{tab}
use Rattle.laws.specs.Bytes.{word_at}
use Rattle.laws.specs.Field.{product}
use Rattle.hierocrypt3_tables.specs.Operations.{p, s, s⁻, rows_l, rows_l⁻}

unfoldable pub s_table : List ℕ
s_table = tab 256 s

unfoldable pub s_table⁻ : List ℕ
s_table⁻ = tab 256 s⁻

-- the first column's four coefficients times x, as a word
abbrev pub first_column : List (List ℕ) → ℕ → ℕ
first_column rows x = word_at (tab 4 (λ i. product p (get_or (get_or rows i []) 0 0) x)) 0

-- s, then mds_L
unfoldable pub t : ℕ → ℕ
t x = first_column rows_l (s x)

unfoldable pub t_table : List ℕ
t_table = tab 256 t

-- the inverse of mds_L
unfoldable pub u : ℕ → ℕ
u x = first_column rows_l⁻ x

unfoldable pub u_table : List ℕ
u_table = tab 256 u
