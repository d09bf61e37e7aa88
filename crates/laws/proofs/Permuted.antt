-- Bytes permuted are bytes, and two permutations that a computed test finds to undo one another both ways do so on bytes.
use mathlib.Core.Path.{◌≡◌, ◌∙◌, sym}
use mathlib.Core.List.{List, [], ◌∷◌}
use Prim.Native.Nat.{ℕ}
use lib.Dec.{T}
use lib.ListN.{length}
use Rattle.laws.specs.Places.{permute}
use Rattle.laws.specs.Bytes.{Bytes}
use Rattle.laws.specs.Inverse.{Inverse}
use Rattle.laws.proofs.Places.{length-permute, permute_undo, undoes}
use Rattle.laws.proofs.Words.{Words, word_at_lem, words_each, each_words}

pub permute_words : (w : ℕ) (from xs : List ℕ) → Words w xs → Words w (permute 0 from xs)
permute_words w [] xs h = tt
permute_words w (i ∷ from) xs h = (word_at_lem w xs i h, permute_words w from xs h)

pub permute_bytes : (n m : ℕ) (from xs : List ℕ) → length from ≡ n → Bytes m xs → Bytes n (permute 0 from xs)
permute_bytes n m from xs e h = each_words 8 n (permute 0 from xs) (length-permute 0 from xs ∙ e) (permute_words 8 from xs (words_each 8 m xs h))

pub permuted : (n : ℕ) (from to : List ℕ) → length from ≡ n → length to ≡ n → T (undoes from to 0) → T (undoes to from 0)
    → Inverse (Bytes n) (permute 0 from) (permute 0 to)
permuted n from to e f t u =
    record {
      on = λ xs h. permute_bytes n n from xs e h;
      off = λ xs h. permute_bytes n n to xs f h;
      undo = λ xs h. permute_undo 0 from to xs (h.long ∙ sym f) t;
      redo = λ xs h. permute_undo 0 to from xs (h.long ∙ sym e) u;
    }
