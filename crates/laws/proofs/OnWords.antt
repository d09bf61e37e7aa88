-- Two functions on n words that undo one another do so on the words' bytes.
use mathlib.Core.Path.{ap, ◌∙◌}
use mathlib.Core.List.{List}
use Prim.Native.Nat.{ℕ, ◌*◌}
use Rattle.laws.specs.Places.{Each}
use Rattle.laws.specs.Bytes.{Bytes, Word, words_of, bytes_of}
use Rattle.laws.specs.Inverse.{Inverse}
use Rattle.laws.proofs.Words.{words_each}
use Rattle.laws.proofs.BigEndian.{words_of-bytes_of, bytes_of-words_of, words_of_words, bytes_of_bytes}

module _ (n : ℕ) (f g : List ℕ → List ℕ) (v : Inverse (Each (Word 32) 0 n) f g) where
  words : (x : List ℕ) → Bytes (n * 4) x → Each (Word 32) 0 n (words_of n x)
  words x h = words_of_words n x (words_each 8 (n * 4) x h)

  pub on_words : Inverse (Bytes (n * 4)) (λ x. bytes_of (f (words_of n x))) (λ x. bytes_of (g (words_of n x)))
  on_words =
      record {
        on = λ x h. bytes_of_bytes n (f (words_of n x)) (v.on (words_of n x) (words x h));
        off = λ x h. bytes_of_bytes n (g (words_of n x)) (v.off (words_of n x) (words x h));
        undo = λ x h.
            ap (λ (l : List ℕ). bytes_of (g l)) (words_of-bytes_of n (f (words_of n x)) (v.on (words_of n x) (words x h)))
            ∙ ap bytes_of (v.undo (words_of n x) (words x h)) ∙ bytes_of-words_of n x h;
        redo = λ x h.
            ap (λ (l : List ℕ). bytes_of (f l)) (words_of-bytes_of n (g (words_of n x)) (v.off (words_of n x) (words x h)))
            ∙ ap bytes_of (v.redo (words_of n x) (words x h)) ∙ bytes_of-words_of n x h;
      }
