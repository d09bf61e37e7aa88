-- Powers in the field by squaring are the plain powers, where the product associates: eight squarings instead of up to 255 products, so that a computed test over a
-- table can take them.
use mathlib.Core.Path.{◌≡◌, refl, sym, ap, ◌∙◌, subst}
use Prim.Native.Nat.{ℕ, zero, suc, ◌+◌, ◌*◌, ◌/◌, ◌%◌, ◌^◌, ◌<◌}
use native.Mathlib.Nat.{mod-lt, zero-lt-suc, div-lt_iff_lt-mul, pow-suc, div-add-mod'}
use native.Mathlib.Omega.{arith}
use lib.Dec.{T, lit<}
use lib.Arith.{lt-one}
use Rattle.laws.specs.Bytes.{Byte}
use Rattle.laws.specs.Field.{product, power}
use Rattle.laws.proofs.Xor.{not_digit}
use Rattle.laws.proofs.Field.{Degree8, assoc_test, product_assoc, product_lt, product_one}

-- a, if the bit is set, else 1
abbrev pub if_odd : ℕ → ℕ → ℕ
if_odd zero a = 1
if_odd (suc b) a = a

-- a to the power n, for an n of k bits: the power n / 2 of the square, times a if n is odd
unfoldable pub power_bits : ℕ → ℕ → ℕ → ℕ → ℕ
power_bits p zero a n = 1
power_bits p (suc k) a n = product p (power_bits p k (product p a a) (n / 2)) (if_odd (n % 2) a)

module _ (p : ℕ) (d : Degree8 p) (u : T (assoc_test p)) where
  pub power_lt : (a n : ℕ) → Byte (power p a n)
  unfolding power
  power_lt a zero = lit< tt
  power_lt a (suc n) = product_lt p (power p a n) a d (power_lt a n)

  power_square : (a q : ℕ) → Byte a → power p (product p a a) q ≡ power p a (q * 2)
  unfolding power
  power_square a zero h = refl
  power_square a (suc q) h =
      let e : suc (suc (q * 2)) ≡ suc q * 2 = omega arith in
      ap (λ (n : ℕ). product p n (product p a a)) (power_square a q h)
      ∙ sym (product_assoc p d u (power p a (q * 2)) a a (power_lt a (q * 2)) h h)
      ∙ ap (power p a) e

  power_odd : (a q b : ℕ) → b < 2 → product p (power p a (q * 2)) (if_odd b a) ≡ power p a (q * 2 + b)
  unfolding power
  power_odd a q zero h = let e : q * 2 ≡ q * 2 + 0 = omega arith in product_one p (power p a (q * 2)) ∙ ap (power p a) e
  power_odd a q (suc zero) h = let e : suc (q * 2) ≡ q * 2 + 1 = omega arith in ap (power p a) e
  power_odd a q (suc (suc b)) h = absurd (not_digit h)

  pub power_bits_is : (k a n : ℕ) → Byte a → n < 2 ^ k → power_bits p k a n ≡ power p a n
  unfolding power power_bits
  power_bits_is zero a n h l = ap (power p a) (sym (lt-one l))
  power_bits_is (suc k) a n h l =
      ap (λ (m : ℕ). product p m (if_odd (n % 2) a))
      (power_bits_is k (product p a a) (n / 2) (product_lt p a a d h) ((div-lt_iff_lt-mul (zero-lt-suc 1)).1 (subst (λ (m : ℕ). n < m) (pow-suc 2 k) l))
      ∙ power_square a (n / 2) h)
      ∙ power_odd a (n / 2) (n % 2) (mod-lt n (zero-lt-suc 1))
      ∙ ap (power p a) (div-add-mod' n 2)
