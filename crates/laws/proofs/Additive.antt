-- Two functions that are additive over xor agree on all words where they agree on 0 and the single bits: w + 1 computed cases for a word of w bits instead of 2^w,
-- n times as many for a list of n words.
use mathlib.Core.Path.{◌≡◌, sym, ap, ap₂, ◌∙◌, subst}
use mathlib.Core.Bool.{Bool}
use mathlib.Core.List.{List, [], ◌∷◌}
use Prim.Native.Nat.{ℕ, zero, suc, ◌+◌, ◌*◌, ◌/◌, ◌%◌, ◌^◌, ◌≤◌, ◌<◌}
use native.Mathlib.Nat.{mod-lt, pow-suc, div-lt_iff_lt-mul, mul_comm, one-mul, lt_of_lt_of_le, le_trans, le-suc, le_refl}
use native.Mathlib.Omega.{arith}
use lib.Dec.{T}
use lib.Arith.{lt-one}
use lib.Pow.{pow_pos, pow-lt, pow_mono, split}
use lib.ListN.{length-replicate, get_or-replicate}
use lib.Bits.{bit_xor, xor_shifted, xor_zero_r}
use Rattle.laws.specs.Places.{Each}
use Rattle.laws.specs.Bytes.{Word, xor_l}
use Rattle.laws.proofs.Test.{both, both_left, both_right, same, same_equal}
use Rattle.laws.proofs.Xor.{not_digit}
use Rattle.laws.proofs.Places.{each_head, each_tail, each_cons}
use Rattle.laws.proofs.XorLists.{zero_list, xor_l-cons, xor_l_zeros_l}

-- ---- one word
abbrev pub bits_test : ℕ → (ℕ → Bool) → Bool
bits_test zero t = t 0
bits_test (suc w) t = both (t (2 ^ w)) (bits_test w t)

-- the values are of any kind, with any sum; `t x` is a test that F and G agree at x
module _ {A : Type 0} (add : A → A → A) (w : ℕ) (F G : ℕ → A)
    (F-adds : (a b : ℕ) → Word w a → Word w b → F (bit_xor a b) ≡ add (F a) (F b))
    (G-adds : (a b : ℕ) → Word w a → Word w b → G (bit_xor a b) ≡ add (G a) (G b))
    (t : ℕ → Bool) (agree : (x : ℕ) → Word w x → T (t x) → F x ≡ G x) where
  top_bit : (k q r : ℕ) → k < w → q < 2 → r < 2 ^ k → F (2 ^ k) ≡ G (2 ^ k) → F r ≡ G r → F (q * 2 ^ k + r) ≡ G (q * 2 ^ k + r)
  top_bit k zero r l hq hr top rest = let z : zero * 2 ^ k + r ≡ r = omega arith in ap F z ∙ rest ∙ ap G (sym z)
  top_bit k (suc zero) r l hq hr top rest =
      let z : bit_xor (2 ^ k) r ≡ 1 * 2 ^ k + r = ap (λ (n : ℕ). bit_xor n r) (sym (one-mul (2 ^ k))) ∙ xor_shifted 1 k r hr in
      let p : Word w (2 ^ k) = pow-lt l in
      let s : Word w r = lt_of_lt_of_le hr (pow_mono (le_trans (le-suc k) l)) in
      ap F (sym z) ∙ F-adds (2 ^ k) r p s ∙ ap₂ add top rest ∙ sym (G-adds (2 ^ k) r p s) ∙ ap G z
  top_bit k (suc (suc q)) r l hq hr top rest = absurd (not_digit hq)

  low_bits : (k : ℕ) → k ≤ w → T (bits_test k t) → (x : ℕ) → x < 2 ^ k → F x ≡ G x
  low_bits zero l u x h = ap F (lt-one h) ∙ agree 0 (pow_pos w) u ∙ ap G (sym (lt-one h))
  low_bits (suc k) l u x h =
      let u₁ = both_left (t (2 ^ k)) (bits_test k t) u in
      let u₂ = both_right (t (2 ^ k)) (bits_test k t) u in
      let hr : x % 2 ^ k < 2 ^ k = mod-lt x (pow_pos k) in
      ap F (sym (split x k))
      ∙ top_bit k (x / 2 ^ k) (x % 2 ^ k) l
      ((div-lt_iff_lt-mul (pow_pos k)).1 (subst (λ (n : ℕ). x < n) (pow-suc 2 k ∙ mul_comm (2 ^ k) 2) h)) hr
      (agree (2 ^ k) (pow-lt l) u₁) (low_bits k (le_trans (le-suc k) l) u₂ (x % 2 ^ k) hr)
      ∙ ap G (split x k)

  pub word_agree : T (bits_test w t) → (x : ℕ) → Word w x → F x ≡ G x
  word_agree u x h = low_bits w (le_refl w) u x h

-- ---- n words, to m
abbrev pub Additive : ℕ → ℕ → ℕ → (List ℕ → List ℕ) → Type 0
Additive w n m F = (a b : List ℕ) → Each (Word w) 0 n a → Each (Word w) 0 n b → F (xor_l n a b) ≡ xor_l m (F a) (F b)

abbrev pub basis_test : ℕ → ℕ → (List ℕ → Bool) → Bool
basis_test zero w t = t []
basis_test (suc n) w t = both (bits_test w (λ x. t (x ∷ zero_list n))) (basis_test n w (λ xs. t (0 ∷ xs)))

each_zero_list : (n w : ℕ) → Each (Word w) 0 n (zero_list n)
each_zero_list n w = record { long = length-replicate n 0; each = λ j h. subst (Word w) (sym (get_or-replicate n j 0 0 h)) (pow_pos w) }

pub lists_agree : (w n m : ℕ) (F G : List ℕ → List ℕ) → Additive w n m F → Additive w n m G → T (basis_test n w (λ xs. same (F xs) (G xs)))
    → (xs : List ℕ) → Each (Word w) 0 n xs → F xs ≡ G xs
lists_agree w zero m F G hF hG t [] e = same_equal (F []) (G []) t
lists_agree w zero m F G hF hG t (x ∷ xs) e = let l = e.long in absurd (omega arith)
lists_agree w (suc n) m F G hF hG t [] e = let l = e.long in absurd (omega arith)
lists_agree w (suc n) m F G hF hG t (x ∷ xs) e =
    let z : List ℕ = zero_list n in
    let gz : Each (Word w) 0 n z = each_zero_list n w in
    let gx : Each (Word w) 0 n xs = each_tail e in
    let first : (y : ℕ) → Word w y → Each (Word w) 0 (suc n) (y ∷ z) = λ y h. each_cons h gz in
    let rest : (l : List ℕ) → Each (Word w) 0 n l → Each (Word w) 0 (suc n) (0 ∷ l) = λ l g. each_cons (pow_pos w) g in
    let two : (a b : ℕ) → bit_xor a b ∷ z ≡ xor_l (suc n) (a ∷ z) (b ∷ z) =
    λ a b. sym (xor_l-cons n a b z z ∙ ap (λ (l : List ℕ). bit_xor a b ∷ l) (xor_l_zeros_l n z gz.long)) in
    let cut : xor_l (suc n) (x ∷ z) (0 ∷ xs) ≡ x ∷ xs =
    xor_l-cons n x 0 z xs ∙ ap₂ (λ (a : ℕ) (l : List ℕ). a ∷ l) (xor_zero_r x) (xor_l_zeros_l n xs gx.long) in
    let test : List ℕ → Bool = λ l. same (F l) (G l) in
    let t₁ = both_left (bits_test w (λ y. test (y ∷ z))) (basis_test n w (λ l. test (0 ∷ l))) t in
    let t₂ = both_right (bits_test w (λ y. test (y ∷ z))) (basis_test n w (λ l. test (0 ∷ l))) t in
    let at_first : F (x ∷ z) ≡ G (x ∷ z) =
    word_agree (xor_l m) w (λ y. F (y ∷ z)) (λ y. G (y ∷ z))
    (λ a b p q. ap F (two a b) ∙ hF (a ∷ z) (b ∷ z) (first a p) (first b q))
    (λ a b p q. ap G (two a b) ∙ hG (a ∷ z) (b ∷ z) (first a p) (first b q))
    (λ y. test (y ∷ z)) (λ y h u. same_equal (F (y ∷ z)) (G (y ∷ z)) u) t₁ x (each_head e) in
    let at_rest : F (0 ∷ xs) ≡ G (0 ∷ xs) =
    lists_agree w n m (λ l. F (0 ∷ l)) (λ l. G (0 ∷ l))
    (λ a b p q. ap F (sym (xor_l-cons n 0 0 a b)) ∙ hF (0 ∷ a) (0 ∷ b) (rest a p) (rest b q))
    (λ a b p q. ap G (sym (xor_l-cons n 0 0 a b)) ∙ hG (0 ∷ a) (0 ∷ b) (rest a p) (rest b q)) t₂ xs gx in
    let px = first x (each_head e) in
    let pr = rest xs gx in
    ap F (sym cut) ∙ hF (x ∷ z) (0 ∷ xs) px pr ∙ ap₂ (xor_l m) at_first at_rest ∙ sym (hG (x ∷ z) (0 ∷ xs) px pr) ∙ ap G cut
