-- What a legal number and length are: the number is 1 to 4, and the length 16, 24 or 32. What holds of each cipher holds of the one of every legal number.
use mathlib.Core.Logic.{◌⊎◌, inl, inr}
use mathlib.Core.Path.{◌≡◌, refl, sym, ap, ◌∙◌, subst}
use mathlib.Core.Bool.{Bool, true, false, not, true≢false}
use mathlib.Core.List.{List, [], ◌∷◌}
use Prim.Native.Nat.{ℕ, ◌≤◌}
use native.Mathlib.Omega.{arith}
use lib.Dec.{eqb}
use lib.ListN.{length}
use borrow.Author.Tests.{eqb-true, ne_eqb}
use Rattle.laws.specs.Choice.{choose}
use Rattle.words.specs.KeyLength.{KeyLength}
use Rattle.noekeon_steps.specs.Rule.{published, earlier, rule}
use Rattle.cipher_numbers.specs.Ciphers.{Cipher, hierocrypt3, e2, noekeon, none, number, is_cipher, is_length, member}

-- ---- the cipher of a number
pub number-1 : (n : ℕ) → n ≡ 1 → number n ≡ hierocrypt3
unfolding number
number-1 n e = ap number e

pub number-2 : (n : ℕ) → n ≡ 2 → number n ≡ e2
unfolding number
number-2 n e = ap number e

pub number-3 : (n : ℕ) → n ≡ 3 → number n ≡ noekeon published
unfolding number
number-3 n e = ap number e

pub number-4 : (n : ℕ) → n ≡ 4 → number n ≡ noekeon earlier
unfolding number
number-4 n e = ap number e

pub which : (n len : ℕ) → is_length n len ≡ true → (n ≡ 1) ⊎ ((n ≡ 2) ⊎ ((n ≡ 3) ⊎ (n ≡ 4)))
unfolding is_length number
which n len = at_1 (eqb n 1) (eqb n 2) (eqb n 3) (eqb n 4) refl refl refl refl
  where
    at_1 : (t u v w : Bool) → eqb n 1 ≡ t → eqb n 2 ≡ u → eqb n 3 ≡ v → eqb n 4 ≡ w
        → member len (choose t hierocrypt3 (choose u e2 (choose v (noekeon published) (choose w (noekeon earlier) none)))).lengths ≡ true
        → (n ≡ 1) ⊎ ((n ≡ 2) ⊎ ((n ≡ 3) ⊎ (n ≡ 4)))
    at_1 true u v w e f g d h = inl (eqb-true n 1 e)
    at_1 false true v w e f g d h = inr (inl (eqb-true n 2 f))
    at_1 false false true w e f g d h = inr (inr (inl (eqb-true n 3 g)))
    at_1 false false false true e f g d h = inr (inr (inr (eqb-true n 4 d)))
    at_1 false false false false e f g d h = absurd (true≢false (sym h))

-- the last case of the code: a number that is neither 1 nor 2 is a Noekeon's, and the published one's where it is 3
pub number_last : (n len : ℕ) → is_length n len ≡ true → (n ≡ 1 → ⊥) → (n ≡ 2 → ⊥) → number n ≡ noekeon (rule (eqb n 3))
number_last n len h a b =
    elim (which n len h) [
      | inl e ↦ absurd (a e)
      | inr o ↦ elim o [
        | inl e ↦ absurd (b e)
        | inr q ↦ elim q [
          | inl e ↦ number-3 n e ∙ ap (λ (m : ℕ). noekeon (rule (eqb m 3))) (sym e)
          | inr e ↦ number-4 n e ∙ ap (λ (m : ℕ). noekeon (rule (eqb m 3))) (sym e)
        ]
      ]
    ]

pub by_number : (P : Cipher → Type 0) → P hierocrypt3 → P e2 → ((b : Bool) → P (noekeon (rule b))) → (n len : ℕ) → is_length n len ≡ true → P (number n)
by_number P a b c n len h =
    elim (which n len h) [
      | inl e ↦ subst P (sym (number-1 n e)) a
      | inr o ↦ elim o [
        | inl e ↦ subst P (sym (number-2 n e)) b
        | inr q ↦ elim q [ inl e ↦ subst P (sym (number-3 n e)) (c true) | inr e ↦ subst P (sym (number-4 n e)) (c false) ]
      ]
    ]

-- beside 1, 2 and 3 only 4 is a cipher's
pub just_4 : (n : ℕ) → (n ≡ 1 → ⊥) → (n ≡ 2 → ⊥) → (n ≡ 3 → ⊥) → eqb n 4 ≡ is_cipher n
unfolding is_cipher number
just_4 n a b c = by_cases (eqb n 1) (eqb n 2) (eqb n 3) (eqb n 4) (ne_eqb n 1 a) (ne_eqb n 2 b) (ne_eqb n 3 c)
  where
    by_cases : (t u v w : Bool) → t ≡ false → u ≡ false → v ≡ false
        → w ≡ not (eqb (length (choose t hierocrypt3 (choose u e2 (choose v (noekeon published) (choose w (noekeon earlier) none)))).lengths) 0)
    by_cases true u v w e f g = absurd (true≢false e)
    by_cases false true v w e f g = absurd (true≢false f)
    by_cases false false true w e f g = absurd (true≢false g)
    by_cases false false false true e f g = refl
    by_cases false false false false e f g = refl

-- a number with a legal length is a cipher's
pub legal_cipher : (n len : ℕ) → is_length n len ≡ true → is_cipher n ≡ true
unfolding is_cipher
legal_cipher n len h = by_number (λ c. cipher_of c ≡ true) refl refl (λ b. refl) n len h
  where
    cipher_of : Cipher → Bool
    cipher_of c = not (eqb (length c.lengths) 0)

-- ---- a legal length
member_of : (len l : ℕ) (ls : List ℕ) → member len (l ∷ ls) ≡ true → (len ≡ l) ⊎ (member len ls ≡ true)
member_of len l ls = go (eqb len l) refl
  where
    go : (t : Bool) → eqb len l ≡ t → choose t true (member len ls) ≡ true → (len ≡ l) ⊎ (member len ls ≡ true)
    go true e h = inl (eqb-true len l e)
    go false e h = inr h

pub just_16 : (len : ℕ) → member len (16 ∷ []) ≡ true → len ≡ 16
just_16 len h = elim (member_of len 16 [] h) [ inl e ↦ e | inr z ↦ absurd (true≢false (sym z)) ]

one_of_three : (len : ℕ) → member len (16 ∷ 24 ∷ 32 ∷ []) ≡ true → KeyLength len
one_of_three len h =
    elim (member_of len 16 (24 ∷ 32 ∷ []) h) [
      | inl e ↦ (omega arith, omega arith, omega arith)
      | inr g ↦ elim (member_of len 24 (32 ∷ []) g) [
        | inl e ↦ (omega arith, omega arith, omega arith)
        | inr f ↦ elim (member_of len 32 [] f) [ inl e ↦ (omega arith, omega arith, omega arith) | inr z ↦ absurd (true≢false (sym z)) ]
      ]
    ]

pub legal_length : (n len : ℕ) → is_length n len ≡ true → KeyLength len
unfolding is_length
legal_length n len h =
    by_number (λ c. member len c.lengths ≡ true → KeyLength len) (one_of_three len) (one_of_three len)
    (λ b g. let e = just_16 len g in (omega arith, omega arith, omega arith)) n len h h

pub legal_number : (n len : ℕ) → is_length n len ≡ true → n ≤ 4
legal_number n len h =
    elim (which n len h) [
      | inl e ↦ omega arith
      | inr o ↦ elim o [ inl e ↦ omega arith | inr q ↦ elim q [ inl e ↦ omega arith | inr e ↦ omega arith ] ]
    ]
