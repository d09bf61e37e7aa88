-- Matrices over words: additive, and two of them undo one another where they do so on single bits, which antt computes. (A matrix of bits, over any values, is
-- better solved by `Sums`.)
use mathlib.Core.Path.{◌≡◌, refl, sym, ap, ap₂, ◌∙◌}
use mathlib.Core.Bool.{Bool, true}
use mathlib.Core.List.{List, [], ◌∷◌}
use Prim.Native.Nat.{ℕ, zero, suc, ◌<◌}
use native.Mathlib.Nat.{le-suc, le_refl, le_trans}
use lib.Dec.{T}
use lib.Pow.{pow_pos}
use lib.ListN.{get_or}
use lib.Bits.{bit_xor, xor_lt}
use Rattle.laws.specs.Places.{Each}
use Rattle.laws.specs.Bytes.{Word, xor_l}
use Rattle.laws.specs.Matrix.{total, pick, matrix}
use Rattle.laws.specs.Inverse.{Inverse}
use Rattle.laws.proofs.Test.{both, both_left, both_right, same}
use Rattle.laws.proofs.Xor.{xor_swap}
use Rattle.laws.proofs.Places.{get_or-tab, tab_equal, each_tab}
use Rattle.laws.proofs.Words.{word_at_lem, words_test, words_by}
use Rattle.laws.proofs.XorLists.{get_or-xor_l}
use Rattle.laws.proofs.Rounds.{steps_keep}
use Rattle.laws.proofs.Additive.{Additive, basis_test, lists_agree}

-- ---- sums
pub total_xor : (n : ℕ) (f g : ℕ → ℕ) → total bit_xor 0 n (λ j. bit_xor (f j) (g j)) ≡ bit_xor (total bit_xor 0 n f) (total bit_xor 0 n g)
total_xor zero f g = refl
total_xor (suc n) f g =
    ap (λ (x : ℕ). bit_xor x (bit_xor (f n) (g n))) (total_xor n f g) ∙ xor_swap (total bit_xor 0 n f) (total bit_xor 0 n g) (f n) (g n)

pub total_equal : {A : Type 0} (add : A → A → A) (none : A) (n : ℕ) (f g : ℕ → A) → ((j : ℕ) → j < n → f j ≡ g j) → total add none n f ≡ total add none n g
total_equal add none zero f g h = refl
total_equal add none (suc n) f g h =
    ap₂ add (total_equal add none n f g (λ j l. h j (le_trans l (le-suc n)))) (h n (le_refl (suc n)))

pub total_lt : (w n : ℕ) (f : ℕ → ℕ) → ((j : ℕ) → j < n → Word w (f j)) → Word w (total bit_xor 0 n f)
total_lt w n f h = steps_keep (Word w) n (λ j acc. bit_xor acc (f j)) (λ j acc l p. xor_lt w acc (f j) p (h j l)) 0 (pow_pos w)

-- ---- the coefficients are words, by a computed test
abbrev pub rows_test : ℕ → List (List ℕ) → Bool
rows_test w [] = true
rows_test w (r ∷ rows) = both (words_test w r) (rows_test w rows)

coefficient_lt : (w : ℕ) (rows : List (List ℕ)) (i j : ℕ) → T (rows_test w rows) → Word w (get_or (get_or rows i []) j 0)
coefficient_lt w [] i j t = pow_pos w
coefficient_lt w (r ∷ rows) zero j t = word_at_lem w r j (words_by w r (both_left (words_test w r) (rows_test w rows) t))
coefficient_lt w (r ∷ rows) (suc i) j t = coefficient_lt w rows i j (both_right (words_test w r) (rows_test w rows) t)

-- ---- over any product that is additive in its second argument and stays within the words
module _ (w n : ℕ) (mul : ℕ → ℕ → ℕ)
    (mul-adds : (c x y : ℕ) → Word w x → Word w y → mul c (bit_xor x y) ≡ bit_xor (mul c x) (mul c y))
    (mul_lt : (c x : ℕ) → Word w c → Word w x → Word w (mul c x)) where
  abbrev times : List (List ℕ) → List ℕ → List ℕ
  times = matrix bit_xor 0 0 mul n

  abbrev sum : List (List ℕ) → List ℕ → ℕ → ℕ
  sum rows xs i = total bit_xor 0 n (λ j. mul (get_or (get_or rows i []) j 0) (get_or xs j 0))

  pub matrix_words : (rows : List (List ℕ)) → T (rows_test w rows) → (xs : List ℕ) → Each (Word w) 0 n xs → Each (Word w) 0 n (times rows xs)
  matrix_words rows t xs h =
      each_tab (Word w) 0 n (sum rows xs)
      (λ i l. total_lt w n (λ j. mul (get_or (get_or rows i []) j 0) (get_or xs j 0))
      (λ j k. mul_lt (get_or (get_or rows i []) j 0) (get_or xs j 0) (coefficient_lt w rows i j t) (h.each j k)))

  pub matrix_adds : (rows : List (List ℕ)) → Additive w n n (times rows)
  matrix_adds rows a b ha hb =
      let row : ℕ → ℕ → ℕ = λ i j. get_or (get_or rows i []) j 0 in
      tab_equal n (sum rows (xor_l n a b)) (λ i. bit_xor (get_or (times rows a) i 0) (get_or (times rows b) i 0)) 0
      (λ i l.
      total_equal bit_xor 0 n (λ j. mul (row i j) (get_or (xor_l n a b) j 0)) (λ j. bit_xor (mul (row i j) (get_or a j 0)) (mul (row i j) (get_or b j 0)))
      (λ j k. ap (mul (row i j)) (get_or-xor_l n a b j k) ∙ mul-adds (row i j) (get_or a j 0) (get_or b j 0) (ha.each j k) (hb.each j k))
      ∙ total_xor n (λ j. mul (row i j) (get_or a j 0)) (λ j. mul (row i j) (get_or b j 0))
      ∙ ap₂ bit_xor (sym (get_or-tab n (sum rows a) i 0 l)) (sym (get_or-tab n (sum rows b) i 0 l)))

  undone : (A B : List (List ℕ)) → T (rows_test w A) → T (basis_test n w (λ xs. same (times B (times A xs)) xs))
      → (xs : List ℕ) → Each (Word w) 0 n xs → times B (times A xs) ≡ xs
  undone A B tA =
      lists_agree w n n (λ xs. times B (times A xs)) (λ xs. xs)
      (λ a b p q. ap (times B) (matrix_adds A a b p q) ∙ matrix_adds B (times A a) (times A b) (matrix_words A tA a p) (matrix_words A tA b q))
      (λ a b p q. refl)

  pub matrix_inverse : (A B : List (List ℕ)) → T (rows_test w A) → T (rows_test w B)
      → T (basis_test n w (λ xs. same (times B (times A xs)) xs)) → T (basis_test n w (λ xs. same (times A (times B xs)) xs))
      → Inverse (Each (Word w) 0 n) (times A) (times B)
  matrix_inverse A B tA tB u r = record { on = matrix_words A tA; off = matrix_words B tB; undo = undone A B tA u; redo = undone B A tB r }

-- ---- bits as coefficients
pub pick_adds : (b x y : ℕ) → pick bit_xor 0 b (bit_xor x y) ≡ bit_xor (pick bit_xor 0 b x) (pick bit_xor 0 b y)
pick_adds zero x y = refl
pick_adds (suc b) x y = refl

pub pick_lt : (w b x : ℕ) → Word w x → Word w (pick bit_xor 0 b x)
pick_lt w zero x h = pow_pos w
pick_lt w (suc b) x h = h
