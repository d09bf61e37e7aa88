-- An equation of xors with any one additive function s under and over them holds for all numbers where each variable meets each power of s equally often on
-- both sides, modulo 2. antt computes that: no bound on the words, no cases. One equation, a list of them, a list of lists.
use mathlib.Core.Path.{◌≡◌, refl, sym, ap, ap₂, ◌∙◌}
use mathlib.Core.Bool.{Bool, true, false}
use mathlib.Core.List.{List, [], ◌∷◌, map}
use Prim.Native.Nat.{ℕ, zero, suc, ◌%◌, ◌^◌}
use native.Mathlib.Nat.{mod-lt, mod-eq_of_lt}
use lib.Dec.{T}
use lib.Pow.{pow_pos}
use lib.ListN.{get_or}
use lib.Bits.{bit_xor, xor_self, xor_zero_r, xor_mod, xor_lt}
use Rattle.laws.specs.Bytes.{Word}
use Rattle.laws.proofs.Xor.{xor_cancel_r, xor_swap}
use Rattle.laws.proofs.Words.{Words, word_at_lem}
use Rattle.laws.proofs.Test.{both, both_left, both_right, zip_test, zip_equal}

pub data Sum : Type 0 where
  at : ℕ → Sum
  zer : Sum
  op : Sum → Sum
  ◌⊕◌ : Sum → Sum → Sum

infixl 60 ◌⊕◌
abbrev pub value : (ℕ → ℕ) → List ℕ → Sum → ℕ
value s xs (at i) = get_or xs i 0
value s xs zer = 0
value s xs (op e) = s (value s xs e)
value s xs (e ⊕ f) = bit_xor (value s xs e) (value s xs f)

-- ---- the normal form: for each variable, the powers of s that meet it an odd number of times
abbrev pub diff : Bool → Bool → Bool
diff false b = b
diff true false = true
diff true true = false

abbrev pub add_p : List Bool → List Bool → List Bool
add_p [] q = q
add_p (c ∷ p) [] = c ∷ p
add_p (c ∷ p) (d ∷ q) = diff c d ∷ add_p p q

abbrev pub add_n : List (List Bool) → List (List Bool) → List (List Bool)
add_n [] qs = qs
add_n (p ∷ ps) [] = p ∷ ps
add_n (p ∷ ps) (q ∷ qs) = add_p p q ∷ add_n ps qs

abbrev pub unit : ℕ → List (List Bool)
unit zero = (true ∷ []) ∷ []
unit (suc i) = [] ∷ unit i

abbrev pub raise : List (List Bool) → List (List Bool)
raise [] = []
raise (p ∷ ps) = (false ∷ p) ∷ raise ps

abbrev pub nf : Sum → List (List Bool)
nf (at i) = unit i
nf zer = []
nf (op e) = raise (nf e)
nf (e ⊕ f) = add_n (nf e) (nf f)

abbrev pub nil_p : List Bool → Bool
nil_p [] = true
nil_p (true ∷ p) = false
nil_p (false ∷ p) = nil_p p

abbrev pub nil_n : List (List Bool) → Bool
nil_n [] = true
nil_n (p ∷ ps) = both (nil_p p) (nil_n ps)

abbrev pub balanced : Sum → Sum → Bool
balanced e f = nil_n (nf (e ⊕ f))

-- ---- the normal form has the sum's value
abbrev sel_b : Bool → ℕ → ℕ
sel_b true x = x
sel_b false x = 0

diff_is : (c d : Bool) (x : ℕ) → sel_b (diff c d) x ≡ bit_xor (sel_b c x) (sel_b d x)
diff_is false d x = refl
diff_is true false x = sym (xor_zero_r x)
diff_is true true x = sym (xor_self x)

module _ (s : ℕ → ℕ) (hs : (x y : ℕ) → s (bit_xor x y) ≡ bit_xor (s x) (s y)) where
  s_zero : s 0 ≡ 0
  s_zero = hs 0 0 ∙ xor_self (s 0)

  val : List Bool → ℕ → ℕ
  val [] x = 0
  val (c ∷ p) x = bit_xor (sel_b c x) (val p (s x))

  lin : List ℕ → List (List Bool) → ℕ
  lin xs [] = 0
  lin [] (p ∷ ps) = 0
  lin (x ∷ xs) (p ∷ ps) = bit_xor (val p x) (lin xs ps)

  s_sel : (c : Bool) (x : ℕ) → s (sel_b c x) ≡ sel_b c (s x)
  s_sel true x = refl
  s_sel false x = s_zero

  val_add : (p q : List Bool) (x : ℕ) → val (add_p p q) x ≡ bit_xor (val p x) (val q x)
  unfolding val
  val_add [] q x = refl
  val_add (c ∷ p) [] x = sym (xor_zero_r (bit_xor (sel_b c x) (val p (s x))))
  val_add (c ∷ p) (d ∷ q) x = ap₂ bit_xor (diff_is c d x) (val_add p q (s x)) ∙ xor_swap (sel_b c x) (sel_b d x) (val p (s x)) (val q (s x))

  val-s : (p : List Bool) (x : ℕ) → val p (s x) ≡ s (val p x)
  unfolding val
  val-s [] x = sym s_zero
  val-s (c ∷ p) x = ap₂ bit_xor (sym (s_sel c x)) (val-s p (s x)) ∙ sym (hs (sel_b c x) (val p (s x)))

  lin_add : (xs : List ℕ) (ps qs : List (List Bool)) → lin xs (add_n ps qs) ≡ bit_xor (lin xs ps) (lin xs qs)
  unfolding lin
  lin_add xs [] qs = refl
  lin_add xs (p ∷ ps) [] = sym (xor_zero_r (lin xs (p ∷ ps)))
  lin_add [] (p ∷ ps) (q ∷ qs) = refl
  lin_add (x ∷ xs) (p ∷ ps) (q ∷ qs) = ap₂ bit_xor (val_add p q x) (lin_add xs ps qs) ∙ xor_swap (val p x) (val q x) (lin xs ps) (lin xs qs)

  lin-raise : (xs : List ℕ) (ps : List (List Bool)) → lin xs (raise ps) ≡ s (lin xs ps)
  unfolding lin val
  lin-raise xs [] = sym s_zero
  lin-raise [] (p ∷ ps) = sym s_zero
  lin-raise (x ∷ xs) (p ∷ ps) = ap₂ bit_xor (val-s p x) (lin-raise xs ps) ∙ sym (hs (val p x) (lin xs ps))

  lin-unit : (xs : List ℕ) (i : ℕ) → lin xs (unit i) ≡ get_or xs i 0
  unfolding lin val
  lin-unit [] zero = refl
  lin-unit [] (suc i) = refl
  lin-unit (x ∷ xs) zero = xor_zero_r (bit_xor x 0) ∙ xor_zero_r x
  lin-unit (x ∷ xs) (suc i) = lin-unit xs i

  nf_is : (xs : List ℕ) (e : Sum) → lin xs (nf e) ≡ value s xs e
  unfolding lin
  nf_is xs (at i) = lin-unit xs i
  nf_is xs zer = refl
  nf_is xs (op e) = lin-raise xs (nf e) ∙ ap s (nf_is xs e)
  nf_is xs (e ⊕ f) = lin_add xs (nf e) (nf f) ∙ ap₂ bit_xor (nf_is xs e) (nf_is xs f)

  nil_p_is : (p : List Bool) (x : ℕ) → T (nil_p p) → val p x ≡ 0
  unfolding val
  nil_p_is [] x t = refl
  nil_p_is (true ∷ p) x t = absurd t
  nil_p_is (false ∷ p) x t = nil_p_is p (s x) t

  nil_n_is : (xs : List ℕ) (ps : List (List Bool)) → T (nil_n ps) → lin xs ps ≡ 0
  unfolding lin
  nil_n_is xs [] t = refl
  nil_n_is [] (p ∷ ps) t = refl
  nil_n_is (x ∷ xs) (p ∷ ps) t = ap₂ bit_xor (nil_p_is p x (both_left (nil_p p) (nil_n ps) t)) (nil_n_is xs ps (both_right (nil_p p) (nil_n ps) t))

  -- ---- the law
  pub solve : (e f : Sum) (xs : List ℕ) → T (balanced e f) → value s xs e ≡ value s xs f
  solve e f xs t =
      sym (xor_cancel_r (value s xs e) (value s xs f))
      ∙ ap (λ (n : ℕ). bit_xor n (value s xs f)) (sym (nf_is xs (e ⊕ f)) ∙ nil_n_is xs (nf (e ⊕ f)) t)

  -- ---- lists of equations, and lists of lists
  pub solve_list : (xs : List ℕ) (es fs : List Sum) → T (zip_test balanced es fs) → map (value s xs) es ≡ map (value s xs) fs
  solve_list xs = zip_equal balanced (value s xs) (λ e f. solve e f xs)

  pub solve_lists : (xs : List ℕ) (es fs : List (List Sum)) → T (zip_test (zip_test balanced) es fs) → map (map (value s xs)) es ≡ map (map (value s xs)) fs
  solve_lists xs = zip_equal (zip_test balanced) (map (value s xs)) (solve_list xs)

-- ---- the same on words, of an s that is additive on words of w bits and stays among them
module _ (w : ℕ) (s : ℕ → ℕ) (adds : (x y : ℕ) → Word w x → Word w y → s (bit_xor x y) ≡ bit_xor (s x) (s y)) (keeps : (x : ℕ) → Word w x → Word w (s x)) where
  -- s of what is left modulo 2^w is additive on all numbers
  cut : ℕ → ℕ
  cut x = s (x % 2 ^ w)

  cut_adds : (x y : ℕ) → cut (bit_xor x y) ≡ bit_xor (cut x) (cut y)
  unfolding cut
  cut_adds x y = ap s (xor_mod x y w) ∙ adds (x % 2 ^ w) (y % 2 ^ w) (mod-lt x (pow_pos w)) (mod-lt y (pow_pos w))

  value_lt : (xs : List ℕ) → Words w xs → (e : Sum) → Word w (value s xs e)
  value_lt xs h (at i) = word_at_lem w xs i h
  value_lt xs h zer = pow_pos w
  value_lt xs h (op e) = keeps (value s xs e) (value_lt xs h e)
  value_lt xs h (e ⊕ f) = xor_lt w (value s xs e) (value s xs f) (value_lt xs h e) (value_lt xs h f)

  value-cut : (xs : List ℕ) → Words w xs → (e : Sum) → value s xs e ≡ value cut xs e
  unfolding cut
  value-cut xs h (at i) = refl
  value-cut xs h zer = refl
  value-cut xs h (op e) = ap s (sym (mod-eq_of_lt (value_lt xs h e))) ∙ ap cut (value-cut xs h e)
  value-cut xs h (e ⊕ f) = ap₂ bit_xor (value-cut xs h e) (value-cut xs h f)

  pub solve_words : (e f : Sum) (xs : List ℕ) → Words w xs → T (balanced e f) → value s xs e ≡ value s xs f
  solve_words e f xs h t = value-cut xs h e ∙ solve cut cut_adds e f xs t ∙ sym (value-cut xs h f)
