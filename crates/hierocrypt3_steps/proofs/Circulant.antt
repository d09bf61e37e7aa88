-- Four words of four bytes each, each turned one byte further to the right and xored: the product with a circulant matrix, read off words of its first column.
use mathlib.Core.Path.{◌≡◌, ap, ◌∙◌}
use mathlib.Core.List.{[], ◌∷◌}
use Prim.Native.Nat.{ℕ}
use native.Mathlib.Omega.{arith}
use lib.Bits.{bit_xor, xor_lt}
use Rattle.laws.specs.Bytes.{Byte, word, bytes_of}
use Rattle.laws.specs.Turn.{rol}
use Rattle.hierocrypt3_steps.specs.code.Columns.{turned_sum}
use Rattle.laws.proofs.BigEndian.{word_xor, word_byte0, word_byte1, word_byte2, word_byte3}

-- ---- a word turned
module _ (a b c d : ℕ) (ha : Byte a) (hb : Byte b) (hc : Byte c) (hd : Byte d) where
  rol24_word : rol 32 24 (word a b c d) ≡ word d a b c
  rol24_word = omega arith

  rol16_word : rol 32 16 (word a b c d) ≡ word c d a b
  rol16_word = omega arith

  rol8_word : rol 32 8 (word a b c d) ≡ word b c d a
  rol8_word = omega arith

-- ---- the sum: f, g, h, k are the products with the first column's coefficients
module _ (f g h k : ℕ → ℕ) (hf : (x : ℕ) → Byte (f x)) (hg : (x : ℕ) → Byte (g x)) (hh : (x : ℕ) → Byte (h x)) (hk : (x : ℕ) → Byte (k x)) where
  abbrev pub column : ℕ → ℕ
  column x = word (f x) (g x) (h x) (k x)

  abbrev sum : (p q r s : ℕ) → ℕ
  sum p q r s = bit_xor (bit_xor (bit_xor p q) r) s

  sum_lt : (p q r s : ℕ) → Byte p → Byte q → Byte r → Byte s → Byte (sum p q r s)
  sum_lt p q r s hp hq hr hs = xor_lt 8 (bit_xor (bit_xor p q) r) s (xor_lt 8 (bit_xor p q) r (xor_lt 8 p q hp hq) hr) hs

  turned_word : (x y z w : ℕ) → bit_xor (bit_xor (bit_xor (column x) (rol 32 24 (column y))) (rol 32 16 (column z))) (rol 32 8 (column w))
      ≡ word (sum (f x) (k y) (h z) (g w)) (sum (g x) (f y) (k z) (h w)) (sum (h x) (g y) (f z) (k w)) (sum (k x) (h y) (g z) (f w))
  turned_word x y z w =
      (λ i. bit_xor (bit_xor (bit_xor (column x) (rol24_word (f y) (g y) (h y) (k y) (hf y) (hg y) (hh y) (hk y) i))
      (rol16_word (f z) (g z) (h z) (k z) (hf z) (hg z) (hh z) (hk z) i))
      (rol8_word (f w) (g w) (h w) (k w) (hf w) (hg w) (hh w) (hk w) i))
      ∙ ap (λ (n : ℕ). bit_xor (bit_xor n (word (h z) (k z) (f z) (g z))) (word (g w) (h w) (k w) (f w)))
      (word_xor (f x) (g x) (h x) (k x) (k y) (f y) (g y) (h y) (hg x) (hh x) (hk x) (hf y) (hg y) (hh y))
      ∙ ap (λ (n : ℕ). bit_xor n (word (g w) (h w) (k w) (f w)))
      (word_xor (bit_xor (f x) (k y)) (bit_xor (g x) (f y)) (bit_xor (h x) (g y)) (bit_xor (k x) (h y)) (h z) (k z) (f z) (g z)
      (xor_lt 8 (g x) (f y) (hg x) (hf y)) (xor_lt 8 (h x) (g y) (hh x) (hg y)) (xor_lt 8 (k x) (h y) (hk x) (hh y)) (hk z) (hf z) (hg z))
      ∙ word_xor (bit_xor (bit_xor (f x) (k y)) (h z)) (bit_xor (bit_xor (g x) (f y)) (k z)) (bit_xor (bit_xor (h x) (g y)) (f z)) (bit_xor (bit_xor (k x) (h y)) (g z))
      (g w) (h w) (k w) (f w)
      (xor_lt 8 (bit_xor (g x) (f y)) (k z) (xor_lt 8 (g x) (f y) (hg x) (hf y)) (hk z))
      (xor_lt 8 (bit_xor (h x) (g y)) (f z) (xor_lt 8 (h x) (g y) (hh x) (hg y)) (hf z))
      (xor_lt 8 (bit_xor (k x) (h y)) (g z) (xor_lt 8 (k x) (h y) (hk x) (hh y)) (hg z)) (hh w) (hk w) (hf w)

  pub turned_bytes : (x y z w : ℕ) → turned_sum (column x) (column y) (column z) (column w)
      ≡ sum (f x) (k y) (h z) (g w) ∷ sum (g x) (f y) (k z) (h w) ∷ sum (h x) (g y) (f z) (k w) ∷ sum (k x) (h y) (g z) (f w) ∷ []
  unfolding turned_sum
  turned_bytes x y z w =
      let p = sum (f x) (k y) (h z) (g w) in
      let q = sum (g x) (f y) (k z) (h w) in
      let r = sum (h x) (g y) (f z) (k w) in
      let s = sum (k x) (h y) (g z) (f w) in
      let hp : Byte p = sum_lt (f x) (k y) (h z) (g w) (hf x) (hk y) (hh z) (hg w) in
      let hq : Byte q = sum_lt (g x) (f y) (k z) (h w) (hg x) (hf y) (hk z) (hh w) in
      let hr : Byte r = sum_lt (h x) (g y) (f z) (k w) (hh x) (hg y) (hf z) (hk w) in
      let hs : Byte s = sum_lt (k x) (h y) (g z) (f w) (hk x) (hh y) (hg z) (hf w) in
      ap (λ (n : ℕ). bytes_of (n ∷ [])) (turned_word x y z w)
      ∙ (λ i. word_byte0 p q r s hp hq hr hs i ∷ word_byte1 p q r s hp hq hr hs i ∷ word_byte2 p q r s hp hq hr hs i ∷ word_byte3 p q r s hp hq hr hs i ∷ [])
