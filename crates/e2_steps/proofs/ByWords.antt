-- What is worked on the words of two blocks, by their bytes.
use mathlib.Core.Path.{◌≡◌, sym, ap₂}
use mathlib.Core.List.{List, [], ◌∷◌}
use Prim.Native.Nat.{ℕ}
use Rattle.laws.specs.Bytes.{Word, words_of, bytes_of}
use Rattle.laws.proofs.BigEndian.{word_bytes}
use Rattle.e2_steps.specs.code.Layout.{quad_bytes}
use Rattle.e2_steps.specs.declared.quad.Quad.{Quad}

-- what every Quad has
pub record Fits (x : Quad) : Type 0 where
  pub a : Word 32 x.a
  pub b : Word 32 x.b
  pub c : Word 32 x.c
  pub d : Word 32 x.d

words_of_lem : (xs : Quad) → Fits xs → words_of 4 (quad_bytes xs) ≡ xs.a ∷ xs.b ∷ xs.c ∷ xs.d ∷ []
words_of_lem x h = λ i. word_bytes x.a h.a i ∷ word_bytes x.b h.b i ∷ word_bytes x.c h.c i ∷ word_bytes x.d h.d i ∷ []

pub by_words : (f : List ℕ → List ℕ → List ℕ) (x y : Quad) → Fits x → Fits y
    → bytes_of (f (x.a ∷ x.b ∷ x.c ∷ x.d ∷ []) (y.a ∷ y.b ∷ y.c ∷ y.d ∷ [])) ≡ bytes_of (f (words_of 4 (quad_bytes x)) (words_of 4 (quad_bytes y)))
by_words f x y hx hy = ap₂ (λ (u v : List ℕ). bytes_of (f u v)) (sym (words_of_lem x hx)) (sym (words_of_lem y hy))
