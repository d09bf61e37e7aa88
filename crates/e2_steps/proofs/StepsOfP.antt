-- P in sixteen steps is P by its matrix: the steps are written over any addition, so that they compute to an equation that `solve_list` decides.
use mathlib.Core.Path.{◌≡◌, refl, sym, ap₂, ◌∙◌, subst}
use mathlib.Core.List.{List, [], ◌∷◌, ◌++◌}
use Prim.Native.Nat.{ℕ}
use lib.Bits.{bit_xor}
use Rattle.laws.specs.Bytes.{Word, bytes_of}
use Rattle.laws.specs.Places.{tab}
use Rattle.laws.specs.Turn.{rol}
use Rattle.laws.specs.Matrix.{bit_matrix}
use Rattle.laws.proofs.Sums.{solve_list}
use Rattle.laws.proofs.Sums.Sum.{at, zer, ◌⊕◌}
use Rattle.words.specs.Word.{WordOf}
use Rattle.words.proofs.OfWord.{of_word, bytes_of_lem, turned_16, turned_24, xor_of}
use Rattle.e2_steps.specs.Steps.{rows_p, P, stepwise}

pub stepwise_is_P : (x : List ℕ) → stepwise bit_xor 0 x ≡ P x
unfolding P
stepwise_is_P x = solve_list (λ n. n) (λ m n. refl) x (stepwise ◌⊕◌ zer (tab 8 at)) (bit_matrix ◌⊕◌ zer 8 rows_p (tab 8 at)) tt

-- by four words: the halves h, l and y of the steps, each four of them at a time
pub P_of_words : (a b t u : ℕ) → Word 32 a → Word 32 b → t ≡ rol 32 16 (bit_xor b a) → u ≡ rol 32 24 (bit_xor a t)
    → bytes_of (bit_xor (bit_xor a t) (bit_xor (bit_xor b a) u) ∷ bit_xor (bit_xor b a) u ∷ []) ≡ P (bytes_of (a ∷ b ∷ []))
P_of_words a b t u ha hb et eu =
    let left = of_word a ha in
    let h = xor_of (of_word b hb) left in
    let l = xor_of left (subst (WordOf _ _ _ _) (sym et) (turned_16 h)) in
    let y = xor_of h (subst (WordOf _ _ _ _) (sym eu) (turned_24 l)) in
    ap₂ ◌++◌ (bytes_of_lem (xor_of l y)) (bytes_of_lem y) ∙ stepwise_is_P (bytes_of (a ∷ b ∷ []))
