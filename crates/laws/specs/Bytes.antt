-- Bytes, lists of them and words of four of them, the highest byte first (01, 'What is built': numbers of several bytes are big-endian).
use Rattle.std.specs.Prelude.{List, [], ◌∷◌, ℕ, ◌+◌, ◌*◌, ◌/◌, ◌%◌, ◌^◌, ◌<◌, get_or}
use Rattle.std.specs.Int.Bits.{bit_xor}
use Rattle.laws.specs.Places.{tab, Each}

-- a number of w bits
abbrev pub Word : ℕ → ℕ → Type 0
Word w x = x < 2 ^ w

abbrev pub Byte : ℕ → Type 0
Byte = Word 8

-- n bytes
abbrev pub Bytes : ℕ → List ℕ → Type 0
Bytes n xs = Each Byte 0 n xs

-- n places of two lists, xored
abbrev pub xor_l : ℕ → List ℕ → List ℕ → List ℕ
xor_l n a b = tab n (λ j. bit_xor (get_or a j 0) (get_or b j 0))

-- the word of four bytes
abbrev pub word : ℕ → ℕ → ℕ → ℕ → ℕ
word a b c d = a * 2 ^ 24 + b * 2 ^ 16 + c * 2 ^ 8 + d

-- word number i of a list of bytes, n such words, and the bytes of a list of words
abbrev pub word_at : List ℕ → ℕ → ℕ
word_at xs i = word (get_or xs (i * 4) 0) (get_or xs (i * 4 + 1) 0) (get_or xs (i * 4 + 2) 0) (get_or xs (i * 4 + 3) 0)

abbrev pub words_of : ℕ → List ℕ → List ℕ
words_of n xs = tab n (word_at xs)

abbrev pub bytes_of : List ℕ → List ℕ
bytes_of [] = []
bytes_of (w ∷ ws) = w / 2 ^ 24 ∷ w / 2 ^ 16 % 2 ^ 8 ∷ w / 2 ^ 8 % 2 ^ 8 ∷ w % 2 ^ 8 ∷ bytes_of ws
