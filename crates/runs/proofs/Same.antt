-- A yes means that the two runs are one, and is given to no others; and how the code finds it, by the xor of the two.
use mathlib.Core.Path.{◌≡◌, refl, sym, ap, ap₂, ◌∙◌}
use mathlib.Core.Bool.{Bool, true, false, true≢false}
use mathlib.Core.List.{List, [], ◌∷◌}
use Prim.Native.Nat.{ℕ, zero, suc}
use native.Mathlib.Omega.{arith}
use lib.Bits.{bit_xor, xor_self, xor_zero_l}
use lib.Dec.{eqb}
use lib.ListN.{length}
use borrow.Author.Tests.{eq-eqb, ne_eqb, eqb-true, eqb-false}
use Rattle.laws.specs.Choice.{choose}
use Rattle.laws.specs.Bytes.{xor_l}
use Rattle.laws.proofs.Xor.{xor_cancel_r}
use Rattle.laws.proofs.XorLists.{xor_l-cons}
use Rattle.runs.specs.Zeros.{zeros}
use Rattle.runs.specs.Same.{same}

pub same_self : (a : List ℕ) → same a a ≡ true
same_self [] = refl
same_self (x ∷ a) = rw (eq-eqb x x refl) (same_self a)

pub same_is : (a b : List ℕ) → same a b ≡ true → a ≡ b
same_is [] [] h = refl
same_is [] (y ∷ b) h = absurd (true≢false (sym h))
same_is (x ∷ a) [] h = absurd (true≢false (sym h))
same_is (x ∷ a) (y ∷ b) h = first (eqb x y) refl h (same_is a b)
  where
    first : (t : Bool) → eqb x y ≡ t → choose t (same a b) false ≡ true → (same a b ≡ true → a ≡ b) → x ∷ a ≡ y ∷ b
    first true e h r = ap₂ (λ (v : ℕ) (l : List ℕ). v ∷ l) (eqb-true x y e) (r h)
    first false e h r = absurd (true≢false (sym h))

-- another length is a no
pub same_length : (a b : List ℕ) → (length a ≡ length b → ⊥) → same a b ≡ false
same_length a b z = go (same a b) refl
  where
    go : (t : Bool) → same a b ≡ t → same a b ≡ false
    go true e = absurd (z (ap length (same_is a b e)))
    go false e = e

-- ---- by the xor
xor_none : (x y : ℕ) → bit_xor x y ≡ 0 → x ≡ y
xor_none x y e = sym (xor_cancel_r x y) ∙ ap (λ (v : ℕ). bit_xor v y) e ∙ xor_zero_l y

pub xor_test : (x y : ℕ) → eqb (bit_xor x y) 0 ≡ eqb x y
xor_test x y = go (eqb x y) refl
  where
    go : (t : Bool) → eqb x y ≡ t → eqb (bit_xor x y) 0 ≡ eqb x y
    go true e = eq-eqb _ _ (ap (λ (v : ℕ). bit_xor v y) (eqb-true x y e) ∙ xor_self y) ∙ sym e
    go false e = ne_eqb _ _ (λ h. eqb-false x y e (xor_none x y h)) ∙ sym e

pub same_by_xor : (n : ℕ) (a b : List ℕ) → length a ≡ n → length b ≡ n → zeros (xor_l n a b) ≡ same a b
same_by_xor zero [] [] h l = refl
same_by_xor zero (x ∷ a) b h l = absurd (omega arith)
same_by_xor zero [] (y ∷ b) h l = absurd (omega arith)
same_by_xor (suc n) [] b h l = absurd (omega arith)
same_by_xor (suc n) (x ∷ a) [] h l = absurd (omega arith)
same_by_xor (suc n) (x ∷ a) (y ∷ b) h l =
    ap zeros (xor_l-cons n x y a b)
    ∙ ap₂ (λ (t u : Bool). choose t u false) (xor_test x y) (same_by_xor n a b (omega arith) (omega arith))
