-- Hierocrypt-3 on a block of four columns of four bytes: S, MDS_L and MDS_H, 002, sections 3.4, 3.5 and 3.2, in its names. s and mds_L are defined in
-- hierocrypt3_tables, the operations of the key schedule in hierocrypt3_keys.
use Rattle.std.specs.Prelude.{List, [], ◌∷◌, ℕ, get_or}
use Rattle.std.specs.Int.Bits.{bit_xor}
use Rattle.laws.specs.Places.{tab, layer}
use Rattle.laws.specs.Matrix.{matrix, bit_matrix}
use Rattle.hierocrypt3_tables.specs.Operations.{s, s⁻, mds_l, mds_l⁻}

-- ---- S (section 3.4)
unfoldable pub S : List (List ℕ) → List (List ℕ)
S = layer 4 [] (λ i. layer 4 0 (λ j. s))

unfoldable pub S⁻ : List (List ℕ) → List (List ℕ)
S⁻ = layer 4 [] (λ i. layer 4 0 (λ j. s⁻))

-- ---- MDS_L (section 3.5)
unfoldable pub MDSL : List (List ℕ) → List (List ℕ)
MDSL = layer 4 [] (λ i. mds_l)

unfoldable pub MDSL⁻ : List (List ℕ) → List (List ℕ)
MDSL⁻ = layer 4 [] (λ i. mds_l⁻)

-- ---- MDS_H (section 3.2): 002's 16 x 16 bits, cut into matrices of 4 x 4 as 01 has them, which work on the columns. 000 prints some rows wrong
abbrev pub a : List (List ℕ)
a = (1 ∷ 0 ∷ 1 ∷ 0 ∷ []) ∷ (1 ∷ 1 ∷ 0 ∷ 1 ∷ []) ∷ (1 ∷ 1 ∷ 1 ∷ 0 ∷ []) ∷ (0 ∷ 1 ∷ 0 ∷ 1 ∷ []) ∷ []

abbrev pub b : List (List ℕ)
b = (1 ∷ 1 ∷ 0 ∷ 1 ∷ []) ∷ (1 ∷ 1 ∷ 1 ∷ 0 ∷ []) ∷ (1 ∷ 1 ∷ 1 ∷ 1 ∷ []) ∷ (1 ∷ 0 ∷ 1 ∷ 0 ∷ []) ∷ []

abbrev pub c : List (List ℕ)
c = (1 ∷ 1 ∷ 1 ∷ 1 ∷ []) ∷ (0 ∷ 1 ∷ 1 ∷ 1 ∷ []) ∷ (0 ∷ 0 ∷ 1 ∷ 1 ∷ []) ∷ (1 ∷ 1 ∷ 1 ∷ 0 ∷ []) ∷ []

abbrev pub rows_h : List (List (List (List ℕ)))
rows_h = (a ∷ a ∷ b ∷ c ∷ []) ∷ (c ∷ a ∷ a ∷ b ∷ []) ∷ (b ∷ c ∷ a ∷ a ∷ []) ∷ (a ∷ b ∷ c ∷ a ∷ []) ∷ []

-- no document has the inverse; `mds_h_inverse`, hierocrypt3_undo/MdsH, decides it. d is the inverse of a
abbrev pub d : List (List ℕ)
d = (0 ∷ 1 ∷ 0 ∷ 1 ∷ []) ∷ (1 ∷ 0 ∷ 1 ∷ 0 ∷ []) ∷ (1 ∷ 1 ∷ 0 ∷ 1 ∷ []) ∷ (1 ∷ 0 ∷ 1 ∷ 1 ∷ []) ∷ []

abbrev pub e : List (List ℕ)
e = (0 ∷ 1 ∷ 1 ∷ 0 ∷ []) ∷ (1 ∷ 0 ∷ 1 ∷ 1 ∷ []) ∷ (0 ∷ 1 ∷ 0 ∷ 1 ∷ []) ∷ (1 ∷ 1 ∷ 0 ∷ 0 ∷ []) ∷ []

abbrev pub rows_h⁻ : List (List (List (List ℕ)))
rows_h⁻ = (d ∷ c ∷ c ∷ e ∷ []) ∷ (e ∷ d ∷ c ∷ c ∷ []) ∷ (c ∷ e ∷ d ∷ c ∷ []) ∷ (c ∷ c ∷ e ∷ d ∷ []) ∷ []

-- columns over any values that can be added
module _ {A : Type 0} (add : A → A → A) (none : A) where
  abbrev pub add_columns : List A → List A → List A
  add_columns x y = tab 4 (λ i. add (get_or x i none) (get_or y i none))

  abbrev pub on_columns : List (List (List (List ℕ))) → List (List A) → List (List A)
  on_columns rows x = matrix add_columns (tab 4 (λ i. none)) [] (bit_matrix add none 4) 4 rows x

unfoldable pub MDSH : List (List ℕ) → List (List ℕ)
MDSH = on_columns bit_xor 0 rows_h

unfoldable pub MDSH⁻ : List (List ℕ) → List (List ℕ)
MDSH⁻ = on_columns bit_xor 0 rows_h⁻
