-- Lists of words of w bits, of any length. By a computed test, and from and to `Bytes`.
use mathlib.Core.Path.{◌≡◌}
use mathlib.Core.Bool.{Bool, true}
use mathlib.Core.List.{List, [], ◌∷◌, ◌++◌}
use Prim.Native.Nat.{ℕ, zero, suc, ◌+◌, ◌^◌}
use native.Mathlib.Omega.{arith}
use lib.Dec.{T, ltb, ltb→lt}
use lib.Pow.{pow_pos}
use lib.ListN.{length, get_or, take, drop, length-append}
use Rattle.laws.specs.Places.{part, Each}
use Rattle.laws.specs.Bytes.{Word, Byte, Bytes}
use Rattle.laws.proofs.Test.{both, both_left, both_right}
use Rattle.laws.proofs.Places.{each_head, each_tail, each_tab}

abbrev pub Words : ℕ → List ℕ → Type 0
Words w [] = Unit {0}
Words w (x ∷ xs) = Word w x × Words w xs

-- past the end stands 0, which is a word too
pub word_at_lem : (w : ℕ) (xs : List ℕ) (i : ℕ) → Words w xs → Word w (get_or xs i 0)
word_at_lem w [] i h = pow_pos w
word_at_lem w (x ∷ xs) zero h = h.0
word_at_lem w (x ∷ xs) (suc i) h = word_at_lem w xs i h.1

-- ---- n words, by their places
pub words_each : (w n : ℕ) (xs : List ℕ) → Each (Word w) 0 n xs → Words w xs
words_each w n [] e = tt
words_each w zero (x ∷ xs) e = let l = e.long in absurd (omega arith)
words_each w (suc n) (x ∷ xs) e = (each_head e, words_each w n xs (each_tail e))

pub each_words : (w n : ℕ) (xs : List ℕ) → length xs ≡ n → Words w xs → Each (Word w) 0 n xs
each_words w n xs e h = record { long = e; each = λ j l. word_at_lem w xs j h }

-- every byte of n bytes, and what is read past them
pub byte_at : (n : ℕ) (xs : List ℕ) (i : ℕ) → Bytes n xs → Byte (get_or xs i 0)
byte_at n xs i h = word_at_lem 8 xs i (words_each 8 n xs h)

-- ---- parts
pub part_bytes : (n from m : ℕ) (xs : List ℕ) → Bytes n xs → Bytes m (part 0 from m xs)
part_bytes n from m xs h = each_tab Byte 0 m (λ j. get_or xs (from + j) 0) (λ j l. byte_at n xs (from + j) h)

pub words_take : (w n : ℕ) (xs : List ℕ) → Words w xs → Words w (take n xs)
words_take w zero xs h = tt
words_take w (suc n) [] h = tt
words_take w (suc n) (x ∷ xs) h = (h.0, words_take w n xs h.1)

pub words_drop : (w n : ℕ) (xs : List ℕ) → Words w xs → Words w (drop n xs)
words_drop w zero xs h = h
words_drop w (suc n) [] h = tt
words_drop w (suc n) (x ∷ xs) h = words_drop w n xs h.1

pub words_append : (w : ℕ) (xs ys : List ℕ) → Words w xs → Words w ys → Words w (xs ++ ys)
words_append w [] ys h l = l
words_append w (x ∷ xs) ys h l = (h.0, words_append w xs ys h.1 l)

pub bytes_append : (m n : ℕ) (xs ys : List ℕ) → Bytes m xs → Bytes n ys → Bytes (m + n) (xs ++ ys)
bytes_append m n xs ys h l =
    let e = h.long in
    let f = l.long in
    each_words 8 (m + n) (xs ++ ys) (omega (arith, length-append xs ys)) (words_append 8 xs ys (words_each 8 m xs h) (words_each 8 n ys l))

-- ---- by a computed test
abbrev pub words_test : ℕ → List ℕ → Bool
words_test w [] = true
words_test w (x ∷ xs) = both (ltb x (2 ^ w)) (words_test w xs)

pub words_by : (w : ℕ) (xs : List ℕ) → T (words_test w xs) → Words w xs
words_by w [] t = tt
words_by w (x ∷ xs) t =
    (ltb→lt x (2 ^ w) (both_left (ltb x (2 ^ w)) (words_test w xs) t), words_by w xs (both_right (ltb x (2 ^ w)) (words_test w xs) t))
