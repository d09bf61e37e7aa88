-- Xor on words is xor on their bytes, for lists of n words.
use mathlib.Core.Path.{◌≡◌, sym, ap, ap₂, ◌∙◌}
use mathlib.Core.List.{List}
use Prim.Native.Nat.{ℕ, ◌+◌, ◌*◌, ◌<◌}
use native.Mathlib.Omega.{arith}
use lib.ListN.{get_or}
use lib.Bits.{bit_xor}
use Rattle.laws.specs.Places.{Each}
use Rattle.laws.specs.Bytes.{Bytes, Word, xor_l, word, word_at, words_of, bytes_of}
use Rattle.laws.proofs.Places.{get_or-tab, tab_equal}
use Rattle.laws.proofs.Words.{byte_at}
use Rattle.laws.proofs.XorLists.{get_or-xor_l, xor_l_bytes}
use Rattle.laws.proofs.BigEndian.{word_xor, words_of-bytes_of, bytes_of-words_of, bytes_of_bytes}

module _ (n : ℕ) (a b : List ℕ) (ha : Bytes (n * 4) a) (hb : Bytes (n * 4) b) where
  word_at_xor : (i : ℕ) → i < n → word_at (xor_l (n * 4) a b) i ≡ bit_xor (word_at a i) (word_at b i)
  word_at_xor i l =
      (λ t. word (at (i * 4) (omega arith) t) (at (i * 4 + 1) (omega arith) t) (at (i * 4 + 2) (omega arith) t) (at (i * 4 + 3) (omega arith) t))
      ∙ sym (word_xor (get_or a (i * 4) 0) (get_or a (i * 4 + 1) 0) (get_or a (i * 4 + 2) 0) (get_or a (i * 4 + 3) 0)
      (get_or b (i * 4) 0) (get_or b (i * 4 + 1) 0) (get_or b (i * 4 + 2) 0) (get_or b (i * 4 + 3) 0)
      (byte_at (n * 4) a (i * 4 + 1) ha) (byte_at (n * 4) a (i * 4 + 2) ha) (byte_at (n * 4) a (i * 4 + 3) ha)
      (byte_at (n * 4) b (i * 4 + 1) hb) (byte_at (n * 4) b (i * 4 + 2) hb) (byte_at (n * 4) b (i * 4 + 3) hb))
    where
      at : (j : ℕ) → j < n * 4 → get_or (xor_l (n * 4) a b) j 0 ≡ bit_xor (get_or a j 0) (get_or b j 0)
      at = get_or-xor_l (n * 4) a b

  pub words_of_xor : words_of n (xor_l (n * 4) a b) ≡ xor_l n (words_of n a) (words_of n b)
  words_of_xor =
      tab_equal n (word_at (xor_l (n * 4) a b)) (λ j. bit_xor (get_or (words_of n a) j 0) (get_or (words_of n b) j 0)) 0
      (λ j l. word_at_xor j l ∙ sym (ap₂ bit_xor (get_or-tab n (word_at a) j 0 l) (get_or-tab n (word_at b) j 0 l)))

pub bytes_of_xor : (n : ℕ) (ws b : List ℕ) → Each (Word 32) 0 n ws → Bytes (n * 4) b → bytes_of (xor_l n ws (words_of n b)) ≡ xor_l (n * 4) (bytes_of ws) b
bytes_of_xor n ws b hw hb =
    let h : Bytes (n * 4) (bytes_of ws) = bytes_of_bytes n ws hw in
    ap bytes_of (sym (words_of_xor n (bytes_of ws) b h hb ∙ ap (λ (l : List ℕ). xor_l n l (words_of n b)) (words_of-bytes_of n ws hw)))
    ∙ bytes_of-words_of n (xor_l (n * 4) (bytes_of ws) b) (xor_l_bytes (n * 4) (bytes_of ws) b h hb)
