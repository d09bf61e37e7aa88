-- What the code's word of four bytes is, by itself and among other bytes.
use Rattle.std.specs.Prelude.{◌≡◌, List, ℕ, ◌+◌, ◌/◌, ◌%◌, ◌^◌, get_or, set}
use Rattle.laws.specs.Bytes.{Byte, word}

-- the word of four bytes, and that they are bytes
pub record WordOf (a b c d r : ℕ) : Type 0 where
  pub is : r ≡ word a b c d
  pub byte0 : Byte a
  pub byte1 : Byte b
  pub byte2 : Byte c
  pub byte3 : Byte d

-- r is the word of the four bytes that stand at n in a list
abbrev pub WordFrom : List ℕ → ℕ → ℕ → Type 0
WordFrom xs n r = WordOf (get_or xs n 0) (get_or xs (n + 1) 0) (get_or xs (n + 2) 0) (get_or xs (n + 3) 0) r

-- a list with the four bytes of a word put in from n on
abbrev pub with_word : List ℕ → ℕ → ℕ → List ℕ
with_word xs n w = set (set (set (set xs n (w / 2 ^ 24)) (n + 1) (w / 2 ^ 16 % 2 ^ 8)) (n + 2) (w / 2 ^ 8 % 2 ^ 8)) (n + 3) (w % 2 ^ 8)
