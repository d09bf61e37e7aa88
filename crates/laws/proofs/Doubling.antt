-- The inverse of an odd number by doubling: if y is right in the low k bits, then y * (2 - z * y) is right in the low 2k. And a start.
use mathlib.Core.Path.{◌≡◌, sym, ap, ap₂, ◌∙◌, subst}
use mathlib.Core.Bool.{Bool}
use Prim.Native.Nat.{ℕ, ◌+◌, ◌-◌, ◌*◌, ◌/◌, ◌%◌, ◌^◌, ◌≤◌, ◌<◌}
use native.Mathlib.Nat.{mul_assoc, mul-add-mod_self_right, div-add-mod', add-mod-mod, add-mod_left, mod-lt, mod-eq_of_lt, le_of_lt, mul-le-mul_left}
use native.Mathlib.Omega.{arith}
use lib.Arith.{digits_mod}
use lib.Pow.{pow_pos, pow-add, mod-mod-pow}
use lib.Bits.{bit_xor, xor_mod}
use lib.Dec.{T, eqb, eqb→eq, lit<}
use Rattle.laws.specs.Places.{tab}
use Rattle.laws.proofs.Places.{get_or-tab}
use Rattle.laws.proofs.Table.{table_at}
use Rattle.laws.proofs.Modular.{mul_mod_l, mul_mod_r}

-- y is right in the low k bits of z's inverse
abbrev pub Right : ℕ → ℕ → ℕ → Type 0
Right k z y = z * y % 2 ^ k ≡ 1

-- ---- a step: d is 2 - z * y modulo 2^2k
-- with p for 2^k and z * y = q * p + 1, the product z * y * d is 1 less the square of q * p, which p * p divides
square_gone : (q p s d : ℕ) → d + q * p ≡ s * (p * p) + 1 → q * q * (p * p) + (q * p + 1) * d ≡ (q * p * s + s) * (p * p) + 1
square_gone q p s d e = apart ∙ ap (λ (n : ℕ). q * p * n + d) e ∙ again ∙ ap (λ (n : ℕ). q * p * s * (p * p) + n) e ∙ joined
  where
    apart : q * q * (p * p) + (q * p + 1) * d ≡ q * p * (d + q * p) + d
    apart = omega arith

    again : q * p * (s * (p * p) + 1) + d ≡ q * p * s * (p * p) + (d + q * p)
    again = omega arith

    joined : q * p * s * (p * p) + (s * (p * p) + 1) ≡ (q * p * s + s) * (p * p) + 1
    joined = omega arith

two_lt : (k z y : ℕ) → Right k z y → 2 < 2 ^ k * 2 ^ k
two_lt k z y e =
    let p : ℕ = 2 ^ k in
    let h : 1 < p = subst (λ (n : ℕ). n < p) e (mod-lt (z * y) (pow_pos k)) in
    let le : p * 2 ≤ p * p = mul-le-mul_left p h in
    omega arith

pub doubles : (k z y d : ℕ) → Right k z y → (d + z * y) % 2 ^ (k + k) ≡ 2 → Right (k + k) z (y * d)
doubles k z y d e f =
    let p : ℕ = 2 ^ k in
    let q : ℕ = z * y / p in
    let s : ℕ = (d + z * y) / (p * p) in
    let product : z * y ≡ q * p + 1 = sym (div-add-mod' (z * y) p) ∙ ap (λ (n : ℕ). q * p + n) e in
    let two : (d + z * y) % (p * p) ≡ 2 = ap (λ (n : ℕ). (d + z * y) % n) (sym (pow-add 2 k k)) ∙ f in
    let sum : d + z * y ≡ s * (p * p) + 2 = sym (div-add-mod' (d + z * y) (p * p)) ∙ ap (λ (n : ℕ). s * (p * p) + n) two in
    let rest : d + q * p ≡ s * (p * p) + 1 = omega arith in
    ap₂ (λ (a b : ℕ). a % b) (sym (mul_assoc z y d) ∙ ap (λ (n : ℕ). n * d) product) (pow-add 2 k k)
    ∙ sym (mul-add-mod_self_right (q * q) (p * p) ((q * p + 1) * d)) ∙ ap (λ (n : ℕ). n % (p * p)) (square_gone q p s d rest)
    ∙ digits_mod (q * p * s + s) (le_of_lt (two_lt k z y e))

-- on words of j + 2k bits
two_word : (j k z y : ℕ) → Right k z y → let w : ℕ = 2 ^ (j + (k + k)) in (2 + (w - z * y % w) + z * y) % 2 ^ (k + k) ≡ 2
two_word j k z y e =
    let w : ℕ = 2 ^ (j + (k + k)) in
    let d : ℕ = 2 + (w - z * y % w) in
    let lt : z * y % w < w = mod-lt (z * y) (pow_pos (j + (k + k))) in
    let sum : d + z * y % w ≡ w + 2 = omega arith in
    let two : (d + z * y) % w ≡ 2 % w = sym (add-mod-mod d (z * y) w) ∙ ap (λ (n : ℕ). n % w) sum ∙ add-mod_left w 2 in
    sym (mod-mod-pow (d + z * y) j (k + k)) ∙ ap (λ (n : ℕ). n % 2 ^ (k + k)) two ∙ mod-mod-pow 2 j (k + k)
    ∙ mod-eq_of_lt (subst (λ (n : ℕ). 2 < n) (sym (pow-add 2 k k)) (two_lt k z y e))

pub doubles_word : (j k z y : ℕ) → Right k z y → let w : ℕ = 2 ^ (j + (k + k)) in Right (k + k) z (y * (2 + (w - z * y % w)) % w)
doubles_word j k z y e =
    let m : ℕ = 2 ^ (k + k) in
    let w : ℕ = 2 ^ (j + (k + k)) in
    let d : ℕ = 2 + (w - z * y % w) in
    sym (mul_mod_r z (y * d % w) m) ∙ ap (λ (n : ℕ). z * n % m) (mod-mod-pow (y * d) j (k + k)) ∙ mul_mod_r z (y * d) m
    ∙ doubles k z y d e (two_word j k z y e)

-- ---- a start: 3 * z with its second bit changed is right in the low four, by a test of the eight odd digits
abbrev start_test : ℕ → Bool
start_test x = eqb (x * bit_xor (3 * x % 16) 2 % 16) 1

odd_digits : (q : ℕ) → q < 8 → T (start_test (q * 2 + 1))
odd_digits q h =
    subst (λ (x : ℕ). T (start_test x)) (get_or-tab 8 (λ (i : ℕ). i * 2 + 1) q 0 h)
    (table_at (λ i x. start_test x) (tab 8 (λ (i : ℕ). i * 2 + 1)) tt q h)

digit_half : {x : ℕ} → x < 16 → x / 2 < 8
digit_half h = omega arith

-- on words of j + 4 bits
start_low : (j z : ℕ) → bit_xor (3 * z % 2 ^ (j + 4)) 2 % 16 ≡ bit_xor (3 * (z % 16) % 16) 2
start_low j z = xor_mod (3 * z % 2 ^ (j + 4)) 2 4 ∙ ap (λ (n : ℕ). bit_xor n 2) (mod-mod-pow (3 * z) j 4 ∙ sym (mul_mod_r 3 z 16))

pub start_right : (j z : ℕ) → z % 2 ≡ 1 → Right 4 z (bit_xor (3 * z % 2 ^ (j + 4)) 2)
start_right j z e =
    let x : ℕ = z % 16 in
    let y : ℕ = bit_xor (3 * z % 2 ^ (j + 4)) 2 in
    let odd : x / 2 * 2 + 1 ≡ x = ap (λ (n : ℕ). x / 2 * 2 + n) (sym (mod-mod-pow z 3 1 ∙ e)) ∙ div-add-mod' x 2 in
    let test : T (start_test x) = subst (λ (n : ℕ). T (start_test n)) odd (odd_digits (x / 2) (digit_half (mod-lt z (lit< tt)))) in
    sym (mul_mod_l z y 16) ∙ sym (mul_mod_r x y 16) ∙ ap (λ (n : ℕ). x * n % 16) (start_low j z)
    ∙ eqb→eq (x * bit_xor (3 * x % 16) 2 % 16) 1 test
