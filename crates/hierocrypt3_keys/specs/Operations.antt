-- The operations of Hierocrypt-3's key schedule: 002, sections 3.8 to 3.11, in its names.
use Rattle.std.specs.Prelude.{List, [], ◌∷◌, ◌++◌, ℕ}
use Rattle.std.specs.Int.Bits.{bit_xor}
use Rattle.laws.specs.Places.{tab, layer, part, quarters, joined}
use Rattle.laws.specs.Bytes.{xor_l}
use Rattle.laws.specs.Matrix.{bit_matrix}
use Rattle.hierocrypt3_tables.specs.Operations.{s}
use Rattle.hierocrypt3_steps.specs.Operations.{a, c, d}

-- ---- P^(n) (section 3.8), on four values of m bytes, n = 8 m. 002's print has lost a row, which 01 has; 000 prints a wrong last one
abbrev pub rows_p : List (List ℕ)
rows_p = (1 ∷ 0 ∷ 1 ∷ 0 ∷ []) ∷ (0 ∷ 1 ∷ 0 ∷ 1 ∷ []) ∷ (0 ∷ 1 ∷ 1 ∷ 1 ∷ []) ∷ (1 ∷ 0 ∷ 1 ∷ 1 ∷ []) ∷ []

-- the inverse, of which 002's print has lost two rows, is 000's; `P_inverse`, hierocrypt3_undo/P, decides it
abbrev pub rows_p⁻ : List (List ℕ)
rows_p⁻ = (1 ∷ 1 ∷ 1 ∷ 0 ∷ []) ∷ (1 ∷ 1 ∷ 0 ∷ 1 ∷ []) ∷ (0 ∷ 1 ∷ 1 ∷ 0 ∷ []) ∷ (1 ∷ 0 ∷ 0 ∷ 1 ∷ []) ∷ []

abbrev on_quarters : ℕ → List (List ℕ) → List ℕ → List ℕ
on_quarters m rows x = joined 0 m (bit_matrix (xor_l m) (tab m (λ j. 0)) 4 rows (quarters 0 m x))

unfoldable pub P : ℕ → List ℕ → List ℕ
P m x = on_quarters m rows_p x

unfoldable pub P⁻ : ℕ → List ℕ → List ℕ
P⁻ m x = on_quarters m rows_p⁻ x

-- ---- M5E (section 3.9), MB3 (section 3.10), on the two halves of eight bytes
abbrev on_halves : List (List ℕ) → List (List ℕ) → List ℕ → List ℕ
on_halves m n x = bit_matrix bit_xor 0 4 m (part 0 0 4 x) ++ bit_matrix bit_xor 0 4 n (part 0 4 4 x)

unfoldable pub M5E : List ℕ → List ℕ
M5E = on_halves a c

-- MB3 is the inverse of M5E, by the inverses d of a and c⁻ of c; `M5E_inverse`, hierocrypt3_undo/M5E, decides it
abbrev pub c⁻ : List (List ℕ)
c⁻ = (1 ∷ 1 ∷ 0 ∷ 0 ∷ []) ∷ (0 ∷ 1 ∷ 1 ∷ 0 ∷ []) ∷ (1 ∷ 0 ∷ 1 ∷ 1 ∷ []) ∷ (1 ∷ 0 ∷ 0 ∷ 1 ∷ []) ∷ []

unfoldable pub MB3 : List ℕ → List ℕ
MB3 = on_halves d c⁻

-- ---- Fσ (section 3.11)
unfoldable pub Fσ : List ℕ → List ℕ
Fσ x = P 2 (layer 8 0 (λ j. s) x)
