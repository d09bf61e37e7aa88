-- The fewest decimal digits that hold a number are its text.
use mathlib.Core.Path.{◌≡◌, ap, ap₂}
use mathlib.Core.List.{List, [], ◌∷◌, ◌++◌}
use Prim.Native.Nat.{ℕ, zero, suc, ◌-◌, ◌/◌, ◌%◌, ◌^◌, ◌≤◌, ◌<◌}
use native.Mathlib.Omega.{arith}
use native.Mathlib.Nat.{pow-suc}
use borrow.Author.Tests.{lt-ltb, le-ltb}
use Rattle.io.specs.Digits.{hex_digit_ascii, last_digits, IsDigitCount}
use Rattle.wording.specs.Numbers.{digit, at_most, decimal}

glyph_digit : (d : ℕ) → d < 10 → hex_digit_ascii d ≡ digit d
glyph_digit d h = rw (lt-ltb d 10 h)

some_power : (k : ℕ) → 1 ≤ 10 ^ k
some_power zero = omega arith
some_power (suc k) =
    let h = some_power k in
    let e = pow-suc 10 k in
    omega arith

one_digit : (m n : ℕ) → n < 10 → last_digits 10 1 n ≡ at_most m n
one_digit zero n h = ap (λ (d : ℕ). d ∷ []) (glyph_digit (n % 10) (omega arith))
one_digit (suc m) n h =
    let e : n % 10 ≡ n = omega arith in
    rw (lt-ltb n 10 h, e, lt-ltb n 10 h)

fewest_rest : (k n : ℕ) → IsDigitCount 10 1 n (suc (suc k)) → IsDigitCount 10 1 (n / 10) (suc k)
fewest_rest k n f =
    let e = pow-suc 10 (suc k) in
    let e2 = pow-suc 10 k in
    let g : suc (suc k) - 1 ≡ suc k = omega arith in
    let g2 : suc k - 1 ≡ k = omega arith in
    let low : 10 ^ suc k ≤ n = rw g at (f.2 (omega arith)) in
    (omega arith, omega (arith, f.1), λ h. rw g2 (omega arith))

fewest_digits : (k m n : ℕ) → n < 10 ^ suc m → IsDigitCount 10 1 n k → last_digits 10 k n ≡ at_most m n
fewest_digits zero m n h f = absurd (omega (arith, f.0))
fewest_digits (suc zero) m n h f = one_digit m n (omega (arith, f.1))
fewest_digits (suc (suc k)) m n h f = go m h (λ m' h'. fewest_digits (suc k) m' (n / 10) h' (fewest_rest k n f))
  where
    ten : 10 ≤ n
    ten =
        let e = pow-suc 10 k in
        let p = some_power k in
        let g : suc (suc k) - 1 ≡ suc k = omega arith in
        let low : 10 ^ suc k ≤ n = rw g at (f.2 (omega arith)) in
        omega arith

    go : (m : ℕ) → n < 10 ^ suc m → ((m' : ℕ) → n / 10 < 10 ^ suc m' → last_digits 10 (suc k) (n / 10) ≡ at_most m' (n / 10))
        → last_digits 10 (suc (suc k)) n ≡ at_most m n
    go zero h more = absurd (let t = ten in omega arith)
    go (suc m) h more =
        let e = pow-suc 10 (suc m) in
        rw (le-ltb n 10 ten) (ap₂ (λ (l : List ℕ) (d : ℕ). l ++ d ∷ []) (more m (omega arith)) (glyph_digit (n % 10) (omega arith)))

pub fewest_decimal : (k n : ℕ) → n < 18446744073709551616 → IsDigitCount 10 1 n k → last_digits 10 k n ≡ decimal n
unfolding decimal
fewest_decimal k n h f = fewest_digits k 19 n (omega arith) f
