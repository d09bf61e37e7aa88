-- Words of 32 bits and their four bytes, the highest first: each way undoes the other, on lists of any length.
use mathlib.Core.Path.{◌≡◌, refl, sym, ap, ap₂, ◌∙◌}
use mathlib.Core.List.{List, [], ◌∷◌, ◌++◌}
use Prim.Native.Nat.{ℕ, zero, suc, ◌+◌, ◌*◌, ◌/◌, ◌%◌, ◌^◌}
use native.Mathlib.Omega.{arith}
use lib.Bits.{bit_xor, xor_block}
use lib.ListN.{length, get_or}
use Rattle.laws.specs.Places.{Each}
use Rattle.laws.specs.Bytes.{Byte, Bytes, Word, word, word_at, words_of, bytes_of}
use Rattle.laws.proofs.Places.{tab_from-suc, tab_equal, each_tab, each_head, each_tail}
use Rattle.laws.proofs.Words.{Words, word_at_lem, words_each, each_words}

-- ---- one word
module _ (a b c d : ℕ) (ha : Byte a) (hb : Byte b) (hc : Byte c) (hd : Byte d) where
  pub word_lt : Word 32 (word a b c d)
  word_lt = omega arith

  pub word_byte0 : word a b c d / 2 ^ 24 ≡ a
  word_byte0 = omega arith

  pub word_byte1 : word a b c d / 2 ^ 16 % 2 ^ 8 ≡ b
  word_byte1 = omega arith

  pub word_byte2 : word a b c d / 2 ^ 8 % 2 ^ 8 ≡ c
  word_byte2 = omega arith

  pub word_byte3 : word a b c d % 2 ^ 8 ≡ d
  word_byte3 = omega arith

pub word_bytes : (w : ℕ) → Word 32 w → word (w / 2 ^ 24) (w / 2 ^ 16 % 2 ^ 8) (w / 2 ^ 8 % 2 ^ 8) (w % 2 ^ 8) ≡ w
word_bytes w h = omega arith

-- ---- two words xored
horner : (a b c d : ℕ) → word a b c d ≡ ((a * 2 ^ 8 + b) * 2 ^ 8 + c) * 2 ^ 8 + d
horner a b c d = omega arith

module _ (a b c d a' b' c' d' : ℕ) (hb : Byte b) (hc : Byte c) (hd : Byte d) (hb' : Byte b') (hc' : Byte c') (hd' : Byte d') where
  pub word_xor : bit_xor (word a b c d) (word a' b' c' d') ≡ word (bit_xor a a') (bit_xor b b') (bit_xor c c') (bit_xor d d')
  word_xor =
      ap₂ bit_xor (horner a b c d) (horner a' b' c' d')
      ∙ xor_block 8 ((a * 2 ^ 8 + b) * 2 ^ 8 + c) ((a' * 2 ^ 8 + b') * 2 ^ 8 + c') d d' hd hd'
      ∙ ap (λ (n : ℕ). n * 2 ^ 8 + bit_xor d d') (xor_block 8 (a * 2 ^ 8 + b) (a' * 2 ^ 8 + b') c c' hc hc')
      ∙ ap (λ (n : ℕ). (n * 2 ^ 8 + bit_xor c c') * 2 ^ 8 + bit_xor d d') (xor_block 8 a a' b b' hb hb')
      ∙ sym (horner (bit_xor a a') (bit_xor b b') (bit_xor c c') (bit_xor d d'))

-- ---- bytes of words are bytes
byte_high : (w : ℕ) → Word 32 w → Byte (w / 2 ^ 24)
byte_high w h = omega arith

byte_part : (w : ℕ) → Byte (w % 2 ^ 8)
byte_part w = omega arith

pub word_at_lt : (xs : List ℕ) (i : ℕ) → Words 8 xs → Word 32 (word_at xs i)
word_at_lt xs i h =
    word_lt (get_or xs (i * 4) 0) (get_or xs (i * 4 + 1) 0) (get_or xs (i * 4 + 2) 0) (get_or xs (i * 4 + 3) 0)
    (word_at_lem 8 xs (i * 4) h) (word_at_lem 8 xs (i * 4 + 1) h) (word_at_lem 8 xs (i * 4 + 2) h) (word_at_lem 8 xs (i * 4 + 3) h)

-- ---- lists: n words are n * 4 bytes
word_at_tail : (a b c d : ℕ) (xs : List ℕ) (j : ℕ) → word_at (a ∷ b ∷ c ∷ d ∷ xs) (suc j) ≡ word_at xs j
word_at_tail a b c d xs j =
    λ i. word (past (suc j * 4) (j * 4) (omega arith) i)
    (past (suc j * 4 + 1) (j * 4 + 1) (omega arith) i)
    (past (suc j * 4 + 2) (j * 4 + 2) (omega arith) i)
    (past (suc j * 4 + 3) (j * 4 + 3) (omega arith) i)
  where
    past : (m n : ℕ) → m ≡ suc (suc (suc (suc n))) → get_or (a ∷ b ∷ c ∷ d ∷ xs) m 0 ≡ get_or xs n 0
    past m n e = ap (λ (k : ℕ). get_or (a ∷ b ∷ c ∷ d ∷ xs) k 0) e

words_of-cons : (n a b c d : ℕ) (xs : List ℕ) → words_of (suc n) (a ∷ b ∷ c ∷ d ∷ xs) ≡ word a b c d ∷ words_of n xs
words_of-cons n a b c d xs =
    ap (λ (l : List ℕ). word a b c d ∷ l)
    (tab_from-suc (word_at (a ∷ b ∷ c ∷ d ∷ xs)) 0 n ∙ tab_equal n (λ j. word_at (a ∷ b ∷ c ∷ d ∷ xs) (suc j)) (word_at xs) 0 (λ j h. word_at_tail a b c d xs j))

pub words_of-bytes_of : (n : ℕ) (ws : List ℕ) → Each (Word 32) 0 n ws → words_of n (bytes_of ws) ≡ ws
words_of-bytes_of zero [] h = refl
words_of-bytes_of zero (w ∷ ws) h = let e = h.long in absurd (omega arith)
words_of-bytes_of (suc n) [] h = let e = h.long in absurd (omega arith)
words_of-bytes_of (suc n) (w ∷ ws) h =
    words_of-cons n (w / 2 ^ 24) (w / 2 ^ 16 % 2 ^ 8) (w / 2 ^ 8 % 2 ^ 8) (w % 2 ^ 8) (bytes_of ws)
    ∙ ap₂ (λ (x : ℕ) (l : List ℕ). x ∷ l) (word_bytes w (each_head h)) (words_of-bytes_of n ws (each_tail h))

pub bytes_of-words_of : (n : ℕ) (xs : List ℕ) → Bytes (n * 4) xs → bytes_of (words_of n xs) ≡ xs
bytes_of-words_of n xs h = go n xs h.long (words_each 8 (n * 4) xs h)
  where
    go : (m : ℕ) (l : List ℕ) → length l ≡ m * 4 → Words 8 l → bytes_of (words_of m l) ≡ l
    go zero [] e w = refl
    go zero (a ∷ l) e w = absurd (omega (arith, e))
    go (suc m) [] e w = absurd (omega (arith, e))
    go (suc m) (a ∷ []) e w = absurd (omega (arith, e))
    go (suc m) (a ∷ b ∷ []) e w = absurd (omega (arith, e))
    go (suc m) (a ∷ b ∷ c ∷ []) e w = absurd (omega (arith, e))
    go (suc m) (a ∷ b ∷ c ∷ d ∷ l) e (ha, (hb, (hc, (hd, w)))) =
        ap bytes_of (words_of-cons m a b c d l)
        ∙ (λ i. word_byte0 a b c d ha hb hc hd i
        ∷ word_byte1 a b c d ha hb hc hd i
        ∷ word_byte2 a b c d ha hb hc hd i
        ∷ word_byte3 a b c d ha hb hc hd i
        ∷ go m l (omega (arith, e)) w i)

pub words_of_words : (n : ℕ) (xs : List ℕ) → Words 8 xs → Each (Word 32) 0 n (words_of n xs)
words_of_words n xs h = each_tab (Word 32) 0 n (word_at xs) (λ j l. word_at_lt xs j h)

pub length-bytes_of : (ws : List ℕ) → length (bytes_of ws) ≡ length ws * 4
length-bytes_of [] = refl
length-bytes_of (w ∷ ws) = let e = length-bytes_of ws in omega arith

pub bytes_of-append : (a b : List ℕ) → bytes_of (a ++ b) ≡ bytes_of a ++ bytes_of b
bytes_of-append [] b = refl
bytes_of-append (x ∷ a) b = ap (λ (l : List ℕ). bytes_of (x ∷ []) ++ l) (bytes_of-append a b)

pub bytes_of_bytes : (n : ℕ) (ws : List ℕ) → Each (Word 32) 0 n ws → Bytes (n * 4) (bytes_of ws)
bytes_of_bytes n ws h =
    each_words 8 (n * 4) (bytes_of ws) (length-bytes_of ws ∙ ap (λ (m : ℕ). m * 4) h.long) (small ws (words_each 32 n ws h))
  where
    small : (l : List ℕ) → Words 32 l → Words 8 (bytes_of l)
    small [] w = tt
    small (x ∷ l) w = (byte_high x w.0, (byte_part (x / 2 ^ 16), (byte_part (x / 2 ^ 8), (byte_part x, small l w.1))))
