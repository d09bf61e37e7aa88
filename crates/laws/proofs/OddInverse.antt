-- The inverse of an odd number modulo 2^(k+1): `odd_inverse` is one, no other word is, and it computes by squaring. Of an even number it is 0, from k = 2 on.
use mathlib.Core.Path.{◌≡◌, refl, sym, ap, ap₂, ◌∙◌}
use Prim.Native.Nat.{ℕ, zero, suc, ◌+◌, ◌-◌, ◌*◌, ◌/◌, ◌%◌, ◌^◌, ◌≤◌, ◌<◌}
use native.Mathlib.Nat.{add-zero, mul_comm, mul_assoc, one-mul, mul-mod_left, div-add-mod', mod-lt, mod-mod, pow-zero, pow-suc, pow-succ', zero-lt-suc}
use native.Mathlib.Omega.{arith}
use lib.Arith.{digits_mod}
use lib.Pow.{pow_pos, pow-add, suc_ones, ones_lt}
use lib.Bits.{bit_or, or_mod}
use Rattle.laws.specs.Bytes.{Word}
use Rattle.laws.specs.Modular.{odd_inverse}
use Rattle.laws.specs.Inverse.{Inverse}
use Rattle.laws.proofs.Xor.{not_digit}
use Rattle.laws.proofs.Modular.{mul_mod_r, mul_cancel, pow_mod, pow_mod_is, pow_double}

-- ---- a number made odd
bit_or_one : (b : ℕ) → b < 2 → bit_or b 1 ≡ 1
bit_or_one zero h = refl
bit_or_one (suc zero) h = refl
bit_or_one (suc (suc b)) h = absurd (not_digit h)

pub or_one_odd : (y : ℕ) → bit_or y 1 % 2 ≡ 1
or_one_odd y = or_mod y 1 1 ∙ bit_or_one (y % 2) (mod-lt y (zero-lt-suc 1))

-- ---- an odd number to the power 2^k leaves 1
square : (q p : ℕ) → (q * (p * 2) + 1) * (q * (p * 2) + 1) ≡ (q * q * p + q) * (p * 2 * 2) + 1
square q p = omega arith

one_lt : (p : ℕ) → 0 < p → 1 < p * 2 * 2
one_lt p h = omega arith

odd_square : (j z : ℕ) → z % 2 ^ suc j ≡ 1 → z * z % 2 ^ suc (suc j) ≡ 1
odd_square j z e =
    let p : ℕ = 2 ^ j in
    let q : ℕ = z / (p * 2) in
    let zq : z ≡ q * (p * 2) + 1 = sym (div-add-mod' z (p * 2)) ∙ ap (λ (x : ℕ). q * (p * 2) + x) (ap (λ (x : ℕ). z % x) (sym (pow-suc 2 j)) ∙ e) in
    ap₂ (λ (x y : ℕ). x % y) (ap₂ (λ (x y : ℕ). x * y) zq zq ∙ square q p) (pow-suc 2 (suc j) ∙ ap (λ (x : ℕ). x * 2) (pow-suc 2 j))
    ∙ digits_mod (q * q * p + q) (one_lt p (pow_pos j))

pub pow_odd : (k z : ℕ) → z % 2 ≡ 1 → z ^ 2 ^ k % 2 ^ suc k ≡ 1
pow_odd zero z e = ap (λ (x : ℕ). x % 2) (pow-suc z 0 ∙ ap (λ (x : ℕ). x * z) (pow-zero z) ∙ one-mul z) ∙ e
pow_odd (suc k) z e =
    ap (λ (x : ℕ). x % 2 ^ suc (suc k)) (ap (λ (x : ℕ). z ^ x) (pow-suc 2 k) ∙ sym (pow_double z (2 ^ k)) ∙ square_pow z (2 ^ k))
    ∙ odd_square k (z ^ 2 ^ k) (pow_odd k z e)
  where
    square_pow : (a n : ℕ) → (a * a) ^ n ≡ a ^ n * a ^ n
    square_pow a n = pow_double a n ∙ ap (λ (x : ℕ). a ^ x) (omega arith) ∙ pow-add a n n

-- ---- the inverse
module _ (k z : ℕ) (e : z % 2 ≡ 1) where
  pub odd_inverse_lem : z * odd_inverse k z % 2 ^ suc k ≡ 1
  unfolding odd_inverse
  odd_inverse_lem =
      mul_mod_r z (z ^ (2 ^ k - 1)) (2 ^ suc k)
      ∙ ap (λ (x : ℕ). x % 2 ^ suc k) (sym (pow-succ' z (2 ^ k - 1)) ∙ ap (λ (x : ℕ). z ^ x) (suc_ones k))
      ∙ pow_odd k z e

  odd_inverse_l : odd_inverse k z * z % 2 ^ suc k ≡ 1
  odd_inverse_l = ap (λ (n : ℕ). n % 2 ^ suc k) (mul_comm (odd_inverse k z) z) ∙ odd_inverse_lem

  pub odd_inverse_unique : (y : ℕ) → Word (suc k) y → z * y % 2 ^ suc k ≡ 1 → y ≡ odd_inverse k z
  unfolding odd_inverse
  odd_inverse_unique y h f =
      sym (mul_cancel y z (odd_inverse k z) (2 ^ suc k) h odd_inverse_lem)
      ∙ ap (λ (n : ℕ). n * odd_inverse k z % 2 ^ suc k) (ap (λ (n : ℕ). n % 2 ^ suc k) (mul_comm y z) ∙ f)
      ∙ ap (λ (n : ℕ). n % 2 ^ suc k) (one-mul (odd_inverse k z)) ∙ mod-mod (z ^ (2 ^ k - 1)) (2 ^ suc k)

  -- to multiply by z and by its inverse undo one another
  pub odd_product : Inverse (Word (suc k)) (λ x. x * z % 2 ^ suc k) (λ x. x * odd_inverse k z % 2 ^ suc k)
  odd_product =
      record {
        on = λ x h. mod-lt (x * z) (pow_pos (suc k));
        off = λ x h. mod-lt (x * odd_inverse k z) (pow_pos (suc k));
        undo = λ x h. mul_cancel x z (odd_inverse k z) (2 ^ suc k) h odd_inverse_lem;
        redo = λ x h. mul_cancel x (odd_inverse k z) z (2 ^ suc k) h odd_inverse_l;
      }

pub odd_inverse_computes : (k z : ℕ) → odd_inverse k z ≡ pow_mod (2 ^ suc k) k z (2 ^ k - 1)
unfolding odd_inverse
odd_inverse_computes k z = sym (pow_mod_is (2 ^ suc k) k z (2 ^ k - 1) (ones_lt k))

-- ---- of an even number the power leaves nothing
even_pow : (q n : ℕ) → (q * 2) ^ n ≡ q ^ n * 2 ^ n
even_pow q zero = pow-zero (q * 2) ∙ sym (ap (λ (x : ℕ). x * 2 ^ 0) (pow-zero q))
even_pow q (suc n) =
    pow-suc (q * 2) n ∙ ap (λ (x : ℕ). x * (q * 2)) (even_pow q n) ∙ regroup (q ^ n) (2 ^ n) q
    ∙ sym (ap₂ (λ (x y : ℕ). x * y) (pow-suc q n) (pow-suc 2 n))
  where
    regroup : (a b c : ℕ) → a * b * (c * 2) ≡ a * c * (b * 2)
    regroup a b c = omega arith

pub even_inverse : (k z : ℕ) → z % 2 ≡ 0 → suc k ≤ 2 ^ k - 1 → odd_inverse k z ≡ 0
unfolding odd_inverse
even_inverse k z e h =
    let n : ℕ = 2 ^ k - 1 in
    let q : ℕ = z / 2 in
    let zq : z ≡ q * 2 = sym (div-add-mod' z 2) ∙ ap (λ (x : ℕ). q * 2 + x) e ∙ add-zero (q * 2) in
    let nk : n ≡ n - suc k + suc k = omega arith in
    ap (λ (x : ℕ). x % 2 ^ suc k)
    (ap (λ (x : ℕ). x ^ n) zq ∙ even_pow q n ∙ ap (λ (x : ℕ). q ^ n * x) (ap (λ (x : ℕ). 2 ^ x) nk ∙ pow-add 2 (n - suc k) (suc k))
    ∙ sym (mul_assoc (q ^ n) (2 ^ (n - suc k)) (2 ^ suc k)))
    ∙ mul-mod_left (q ^ n * 2 ^ (n - suc k)) (2 ^ suc k)
