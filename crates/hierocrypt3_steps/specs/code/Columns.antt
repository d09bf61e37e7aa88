-- A block's steps as the code takes them, a column or a row at a time.
use Rattle.std.specs.Prelude.{List, [], ◌∷◌, ℕ, get_or}
use Rattle.std.specs.Int.Bits.{bit_xor}
use Rattle.laws.specs.Places.{tab, layer}
use Rattle.laws.specs.Bytes.{word, bytes_of}
use Rattle.laws.specs.Turn.{rol}
use Rattle.laws.specs.Matrix.{total, pick}
use Rattle.hierocrypt3_tables.specs.Operations.{s, s⁻}

-- ---- s at each byte of a column
unfoldable pub s_column : List ℕ → List ℕ
s_column = layer 4 0 (λ j. s)

unfoldable pub s_column⁻ : List ℕ → List ℕ
s_column⁻ = layer 4 0 (λ j. s⁻)

-- ---- the bytes of the sum of four words, each turned one byte further to the right than the one before
unfoldable pub turned_sum : ℕ → ℕ → ℕ → ℕ → List ℕ
turned_sum x y z w = bytes_of (bit_xor (bit_xor (bit_xor x (rol 32 24 y)) (rol 32 16 z)) (rol 32 8 w) ∷ [])

-- ---- MDS_H a row at a time: byte k of each column makes row k
abbrev pub row_word : List (List ℕ) → ℕ → ℕ
row_word x k = word (get_or (get_or x 0 []) k 0) (get_or (get_or x 1 []) k 0) (get_or (get_or x 2 []) k 0) (get_or (get_or x 3 []) k 0)

abbrev pub row_words : List (List ℕ) → List ℕ
row_words x = tab 4 (row_word x)

-- a row of bits times four values
unfoldable pub bit_row : List ℕ → List ℕ → ℕ
bit_row m x = total bit_xor 0 4 (λ j. pick bit_xor 0 (get_or m j 0) (get_or x j 0))

-- row i of four matrices times the rows x
abbrev pub turned_row : (m n o q : List (List ℕ)) → List ℕ → ℕ → List ℕ
turned_row m n o q x i = turned_sum (bit_row (get_or m i []) x) (bit_row (get_or n i []) x) (bit_row (get_or o i []) x) (bit_row (get_or q i []) x)

-- column j of four rows
abbrev pub column_of : (y0 y1 y2 y3 : List ℕ) → ℕ → List ℕ
column_of y0 y1 y2 y3 j = get_or y0 j 0 ∷ get_or y1 j 0 ∷ get_or y2 j 0 ∷ get_or y3 j 0 ∷ []
