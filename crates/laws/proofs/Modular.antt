-- Products and powers modulo m, and powers by squaring, which compute.
use mathlib.Core.Path.{◌≡◌, sym, ap, ◌∙◌, subst}
use Prim.Native.Nat.{ℕ, zero, suc, ◌+◌, ◌*◌, ◌/◌, ◌%◌, ◌^◌, ◌<◌}
use native.Mathlib.Nat.{mul_comm, mul_assoc, mul-one, one-mul, mul-add-mod_self_right, div-add-mod', mod-lt, pow-zero, pow-suc, pow-succ', zero-lt-suc, div-lt_iff_lt-mul, mod-eq_of_lt, le_of_lt, lt_of_le_of_lt, mul-le-mul_left, mul-lt-mul_of_pos_right}
use native.Mathlib.Omega.{arith}
use lib.Arith.{lt-one}
use lib.Pow.{pow_pos, pow-add}
use Rattle.laws.specs.Bytes.{Word}
use Rattle.laws.proofs.Xor.{not_digit}
use Rattle.laws.proofs.Power.{if_odd}

-- a product of two words of k bits has k + k
pub mul_lt : (k : ℕ) {a b : ℕ} → Word k a → Word k b → Word (k + k) (a * b)
mul_lt k {a} {b} ha hb =
    subst (λ (n : ℕ). a * b < n) (sym (pow-add 2 k k))
    (lt_of_le_of_lt (mul-le-mul_left a (le_of_lt hb)) (mul-lt-mul_of_pos_right ha (pow_pos k)))

-- ---- a factor may be reduced before it is multiplied
regroup : (q m r b : ℕ) → (q * m + r) * b ≡ q * b * m + r * b
regroup q m r b = omega arith

pub mul_mod_l : (a b m : ℕ) → (a % m) * b % m ≡ a * b % m
mul_mod_l a b m =
    sym (ap (λ (n : ℕ). n % m) (ap (λ (n : ℕ). n * b) (sym (div-add-mod' a m)) ∙ regroup (a / m) m (a % m) b)
    ∙ mul-add-mod_self_right (a / m * b) m ((a % m) * b))

pub mul_mod_r : (a b m : ℕ) → a * (b % m) % m ≡ a * b % m
mul_mod_r a b m = ap (λ (n : ℕ). n % m) (mul_comm a (b % m)) ∙ mul_mod_l b a m ∙ ap (λ (n : ℕ). n % m) (mul_comm b a)

pub pow_mod_lem : (a n m : ℕ) → (a % m) ^ n % m ≡ a ^ n % m
pow_mod_lem a zero m = ap (λ (x : ℕ). x % m) (pow-zero (a % m) ∙ sym (pow-zero a))
pow_mod_lem a (suc n) m =
    ap (λ (x : ℕ). x % m) (pow-suc (a % m) n)
    ∙ mul_mod_r ((a % m) ^ n) a m
    ∙ sym (mul_mod_l ((a % m) ^ n) a m) ∙ ap (λ (x : ℕ). x * a % m) (pow_mod_lem a n m) ∙ mul_mod_l (a ^ n) a m
    ∙ ap (λ (x : ℕ). x % m) (sym (pow-suc a n))

-- what a times b leaves alone, a and then b leave alone
pub mul_cancel : (x a b m : ℕ) → x < m → a * b % m ≡ 1 → (x * a % m) * b % m ≡ x
mul_cancel x a b m h e =
    mul_mod_l (x * a) b m ∙ ap (λ (n : ℕ). n % m) (mul_assoc x a b)
    ∙ sym (mul_mod_r x (a * b) m) ∙ ap (λ (n : ℕ). x * n % m) e ∙ ap (λ (n : ℕ). n % m) (mul-one x) ∙ mod-eq_of_lt h

-- ---- z to the power n modulo m, for an n of k bits, by squaring
abbrev pub pow_mod : ℕ → ℕ → ℕ → ℕ → ℕ
pow_mod m zero z n = 1 % m
pow_mod m (suc k) z n = if_odd (n % 2) z * pow_mod m k (z * z % m) (n / 2) % m

pub pow_double : (z q : ℕ) → (z * z) ^ q ≡ z ^ (q * 2)
pow_double z zero = pow-zero (z * z) ∙ sym (pow-zero z)
pow_double z (suc q) =
    pow-suc (z * z) q ∙ ap (λ (x : ℕ). x * (z * z)) (pow_double z q) ∙ sym (mul_assoc (z ^ (q * 2)) z z)
    ∙ sym (pow-suc z (suc (q * 2)) ∙ ap (λ (x : ℕ). x * z) (pow-suc z (q * 2)))
    ∙ ap (λ (x : ℕ). z ^ x) (omega arith)

pow_digits : (z q b : ℕ) → b < 2 → if_odd b z * (z * z) ^ q ≡ z ^ (q * 2 + b)
pow_digits z q zero h = one-mul ((z * z) ^ q) ∙ pow_double z q ∙ ap (λ (x : ℕ). z ^ x) (omega arith)
pow_digits z q (suc zero) h = ap (λ (x : ℕ). z * x) (pow_double z q) ∙ sym (pow-succ' z (q * 2)) ∙ ap (λ (x : ℕ). z ^ x) (omega arith)
pow_digits z q (suc (suc b)) h = absurd (not_digit h)

pub pow_mod_is : (m k z n : ℕ) → n < 2 ^ k → pow_mod m k z n ≡ z ^ n % m
pow_mod_is m zero z n h = ap (λ (x : ℕ). x % m) (sym (pow-zero z) ∙ ap (λ (x : ℕ). z ^ x) (sym (lt-one h)))
pow_mod_is m (suc k) z n h =
    ap (λ (x : ℕ). if_odd (n % 2) z * x % m)
    (pow_mod_is m k (z * z % m) (n / 2) ((div-lt_iff_lt-mul (zero-lt-suc 1)).1 (subst (λ (x : ℕ). n < x) (pow-suc 2 k) h)) ∙ pow_mod_lem (z * z) (n / 2) m)
    ∙ mul_mod_r (if_odd (n % 2) z) ((z * z) ^ (n / 2)) m
    ∙ ap (λ (x : ℕ). x % m) (pow_digits z (n / 2) (n % 2) (mod-lt n (zero-lt-suc 1)) ∙ ap (λ (x : ℕ). z ^ x) (div-add-mod' n 2))
