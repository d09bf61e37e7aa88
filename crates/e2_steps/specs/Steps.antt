-- E2's transformations: 001, in its names and order. 01 ('E2') repairs its print in places; each is named where it is.
use Rattle.std.specs.Prelude.{List, [], ◌∷◌, ℕ, ◌*◌, ◌%◌, ◌^◌, get_or}
use Rattle.std.specs.Int.Bits.{bit_xor, bit_or}
use Rattle.laws.specs.Places.{tab, layer, permute}
use Rattle.laws.specs.Bytes.{words_of, bytes_of}
use Rattle.laws.specs.Matrix.{bit_matrix}
use Rattle.laws.specs.Modular.{odd_inverse}
use Rattle.e2_table.specs.Substitution.{s}

-- ---- X ⊗ Y and X ⊘ Y, word by word modulo 2^32, each word of Y made odd by y ∨ 1
-- z to the 2^31 - 1
unfoldable pub inverse : ℕ → ℕ
inverse z = odd_inverse 31 z

abbrev pub times_words : List ℕ → List ℕ → List ℕ
times_words x y = tab 4 (λ i. get_or x i 0 * bit_or (get_or y i 0) 1 % 2 ^ 32)

abbrev pub over_words : List ℕ → List ℕ → List ℕ
over_words x y = tab 4 (λ i. get_or x i 0 * inverse (bit_or (get_or y i 0) 1) % 2 ^ 32)

unfoldable pub times : List ℕ → List ℕ → List ℕ
times x y = bytes_of (times_words (words_of 4 x) (words_of 4 y))

unfoldable pub over : List ℕ → List ℕ → List ℕ
over x y = bytes_of (over_words (words_of 4 x) (words_of 4 y))

-- ---- BP and its inverse, BRL: the place from which the byte at each place comes
abbrev pub from_bp : List ℕ
from_bp = 0 ∷ 5 ∷ 10 ∷ 15 ∷ 4 ∷ 9 ∷ 14 ∷ 3 ∷ 8 ∷ 13 ∷ 2 ∷ 7 ∷ 12 ∷ 1 ∷ 6 ∷ 11 ∷ []

abbrev pub from_bp⁻ : List ℕ
from_bp⁻ = 0 ∷ 13 ∷ 10 ∷ 7 ∷ 4 ∷ 1 ∷ 14 ∷ 11 ∷ 8 ∷ 5 ∷ 2 ∷ 15 ∷ 12 ∷ 9 ∷ 6 ∷ 3 ∷ []

abbrev pub from_brl : List ℕ
from_brl = 1 ∷ 2 ∷ 3 ∷ 4 ∷ 5 ∷ 6 ∷ 7 ∷ 0 ∷ []

unfoldable pub BP : List ℕ → List ℕ
BP = permute 0 from_bp

unfoldable pub BP⁻ : List ℕ → List ℕ
BP⁻ = permute 0 from_bp⁻

unfoldable pub BRL : List ℕ → List ℕ
BRL = permute 0 from_brl

-- ---- S: s at each byte. s is in e2_table/Substitution
unfoldable pub S : List ℕ → List ℕ
S = layer 8 0 (λ j. s)

-- ---- P. 01 repairs the last row, which 001 prints as 10111000
abbrev pub rows_p : List (List ℕ)
rows_p =
    (0 ∷ 1 ∷ 1 ∷ 1 ∷ 1 ∷ 1 ∷ 1 ∷ 0 ∷ [])
    ∷ (1 ∷ 0 ∷ 1 ∷ 1 ∷ 0 ∷ 1 ∷ 1 ∷ 1 ∷ [])
    ∷ (1 ∷ 1 ∷ 0 ∷ 1 ∷ 1 ∷ 0 ∷ 1 ∷ 1 ∷ [])
    ∷ (1 ∷ 1 ∷ 1 ∷ 0 ∷ 1 ∷ 1 ∷ 0 ∷ 1 ∷ [])
    ∷ (1 ∷ 1 ∷ 0 ∷ 1 ∷ 1 ∷ 1 ∷ 0 ∷ 0 ∷ [])
    ∷ (1 ∷ 1 ∷ 1 ∷ 0 ∷ 0 ∷ 1 ∷ 1 ∷ 0 ∷ [])
    ∷ (0 ∷ 1 ∷ 1 ∷ 1 ∷ 0 ∷ 0 ∷ 1 ∷ 1 ∷ [])
    ∷ (1 ∷ 0 ∷ 1 ∷ 1 ∷ 1 ∷ 0 ∷ 0 ∷ 1 ∷ [])
    ∷ []

unfoldable pub P : List ℕ → List ℕ
P = bit_matrix bit_xor 0 8 rows_p

-- P one value after another, as 001 has it too. 01 repairs the second row of steps: it takes the values already renewed, a5, a4, a7 and a6, where 001 prints
-- x5, x4, x7 and x6. Written over any addition
abbrev pub stepwise : {A : Type 0} → (A → A → A) → A → List A → List A
stepwise {A} add none x =
    let g : ℕ → A = λ j. get_or x j none in
    let a7 = add (g 7) (g 3) in
    let a6 = add (g 6) (g 2) in
    let a5 = add (g 5) (g 1) in
    let a4 = add (g 4) (g 0) in
    let a3 = add (g 3) a5 in
    let a2 = add (g 2) a4 in
    let a1 = add (g 1) a7 in
    let a0 = add (g 0) a6 in
    let y7 = add a7 a2 in
    let y6 = add a6 a1 in
    let y5 = add a5 a0 in
    let y4 = add a4 a3 in
    let y3 = add a3 y7 in
    let y2 = add a2 y6 in
    let y1 = add a1 y5 in
    let y0 = add a0 y4 in
    y0 ∷ y1 ∷ y2 ∷ y3 ∷ y4 ∷ y5 ∷ y6 ∷ y7 ∷ []
