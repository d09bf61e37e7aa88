-- A word by its four bytes: the list of them, two words xored, a word turned by whole bytes, and words that stand in a list of bytes.
use mathlib.Core.Path.{◌≡◌, sym, ap, ap₂, ◌∙◌}
use mathlib.Core.List.{List, [], ◌∷◌, ◌++◌}
use Prim.Native.Nat.{ℕ, ◌+◌, ◌/◌, ◌%◌, ◌^◌}
use native.Mathlib.Nat.{add-zero, add_assoc}
use native.Mathlib.Omega.{arith}
use lib.Bits.{bit_xor, xor_lt}
use lib.ListN.{get_or}
use Rattle.laws.specs.Bytes.{Word, word, bytes_of}
use Rattle.laws.specs.Places.{part}
use Rattle.laws.specs.Turn.{rol}
use Rattle.laws.proofs.BigEndian.{word_byte0, word_byte1, word_byte2, word_byte3, word_bytes, word_xor}
use Rattle.words.specs.Word.{WordOf, WordFrom}

pub of_word : (x : ℕ) → Word 32 x → WordOf (x / 2 ^ 24) (x / 2 ^ 16 % 2 ^ 8) (x / 2 ^ 8 % 2 ^ 8) (x % 2 ^ 8) x
of_word x h = record { is = sym (word_bytes x h); byte0 = omega arith; byte1 = omega arith; byte2 = omega arith; byte3 = omega arith }

module _ {a b c d x : ℕ} (w : WordOf a b c d x) where
  pub bytes_of_lem : bytes_of (x ∷ []) ≡ a ∷ b ∷ c ∷ d ∷ []
  bytes_of_lem =
      let h0 = w.byte0 in
      let h1 = w.byte1 in
      let h2 = w.byte2 in
      let h3 = w.byte3 in
      ap (λ (y : ℕ). bytes_of (y ∷ [])) w.is
      ∙ (λ i. word_byte0 a b c d h0 h1 h2 h3 i ∷ word_byte1 a b c d h0 h1 h2 h3 i ∷ word_byte2 a b c d h0 h1 h2 h3 i ∷ word_byte3 a b c d h0 h1 h2 h3 i ∷ [])

  pub turned_16 : WordOf c d a b (rol 32 16 x)
  turned_16 =
      let e : rol 32 16 (word a b c d) ≡ word c d a b = omega arith in
      record { is = ap (rol 32 16) w.is ∙ e; byte0 = w.byte2; byte1 = w.byte3; byte2 = w.byte0; byte3 = w.byte1 }

  pub turned_24 : WordOf d a b c (rol 32 24 x)
  turned_24 =
      let e : rol 32 24 (word a b c d) ≡ word d a b c = omega arith in
      record { is = ap (rol 32 24) w.is ∙ e; byte0 = w.byte3; byte1 = w.byte0; byte2 = w.byte1; byte3 = w.byte2 }

pub xor_of : {a b c d x a' b' c' d' y : ℕ} → WordOf a b c d x → WordOf a' b' c' d' y
    → WordOf (bit_xor a a') (bit_xor b b') (bit_xor c c') (bit_xor d d') (bit_xor x y)
xor_of {a} {b} {c} {d} {x} {a'} {b'} {c'} {d'} {y} w v = record {
  is = ap₂ bit_xor w.is v.is ∙ word_xor a b c d a' b' c' d' w.byte1 w.byte2 w.byte3 v.byte1 v.byte2 v.byte3;
  byte0 = xor_lt 8 a a' w.byte0 v.byte0;
  byte1 = xor_lt 8 b b' w.byte1 v.byte1;
  byte2 = xor_lt 8 c c' w.byte2 v.byte2;
  byte3 = xor_lt 8 d d' w.byte3 v.byte3;
}

-- the bytes of two words xored
pub bytes_xor : (x y : ℕ) → Word 32 x → Word 32 y
    → bytes_of (bit_xor x y ∷ [])
    ≡ bit_xor (x / 2 ^ 24) (y / 2 ^ 24)
    ∷ bit_xor (x / 2 ^ 16 % 2 ^ 8) (y / 2 ^ 16 % 2 ^ 8)
    ∷ bit_xor (x / 2 ^ 8 % 2 ^ 8) (y / 2 ^ 8 % 2 ^ 8)
    ∷ bit_xor (x % 2 ^ 8) (y % 2 ^ 8)
    ∷ []
bytes_xor x y h l = bytes_of_lem (xor_of (of_word x h) (of_word y l))

-- ---- words that stand at n in a list of bytes
module _ (xs : List ℕ) where
  abbrev four : ℕ → List ℕ
  four n = get_or xs n 0 ∷ get_or xs (n + 1) 0 ∷ get_or xs (n + 2) 0 ∷ get_or xs (n + 3) 0 ∷ []

  eight : (n : ℕ) → four n ++ four (n + 4) ≡ part 0 n 8 xs
  eight n = simp (add_assoc, add-zero)

  sixteen : (n : ℕ) → four n ++ (four (n + 4) ++ (four (n + 8) ++ four (n + 12))) ≡ part 0 n 16 xs
  sixteen n = simp (add_assoc, add-zero)

  pub two_from : (n a b : ℕ) → WordFrom xs n a → WordFrom xs (n + 4) b → bytes_of (a ∷ b ∷ []) ≡ part 0 n 8 xs
  two_from n a b wa wb = ap₂ ◌++◌ (bytes_of_lem wa) (bytes_of_lem wb) ∙ eight n

  pub four_from : (n a b c d : ℕ) → WordFrom xs n a → WordFrom xs (n + 4) b → WordFrom xs (n + 8) c → WordFrom xs (n + 12) d
      → bytes_of (a ∷ b ∷ c ∷ d ∷ []) ≡ part 0 n 16 xs
  four_from n a b c d wa wb wc wd = ap₂ ◌++◌ (bytes_of_lem wa) (ap₂ ◌++◌ (bytes_of_lem wb) (ap₂ ◌++◌ (bytes_of_lem wc) (bytes_of_lem wd))) ∙ sixteen n
