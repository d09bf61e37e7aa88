-- Xor on numbers, of any width: `lib.Bits` has that it commutes, that 0 changes nothing, that a number cancels itself and the bound; here it associates and cancels
-- anywhere, and moves past shifts. `simp xors` proves an equation of xors.
use mathlib.Core.Path.{◌≡◌, refl, sym, ap, ap₂, ◌∙◌}
use Prim.Native.Nat.{ℕ, zero, suc, ◌+◌, ◌*◌, ◌/◌, ◌%◌, ◌^◌, ◌<◌}
use native.Mathlib.Nat.{mod-lt, le_of_suc-le-suc, not-suc-le-zero, zero-lt-suc, add-zero}
use lib.Arith.{bin_ind}
use lib.Pow.{pow_pos}
use lib.Bits.{bit_xor, differ, xor_step, xor_block, xor_shr, xor_mod, xor_comm, xor_self, xor_zero_r}

-- ---- halves and last digits
pub xor_half : (a b : ℕ) → bit_xor a b / 2 ≡ bit_xor (a / 2) (b / 2)
xor_half a b = xor_shr a b 1

pub xor_odd : (a b : ℕ) → bit_xor a b % 2 ≡ bit_xor (a % 2) (b % 2)
xor_odd a b = xor_mod a b 1

digit : (a : ℕ) → a % 2 < 2
digit a = mod-lt a (zero-lt-suc 1)

pub not_digit : {a : ℕ} → suc (suc a) < 2 → ⊥
not_digit h = not-suc-le-zero (le_of_suc-le-suc (le_of_suc-le-suc h))

digit_xor : (x y : ℕ) → x < 2 → y < 2 → bit_xor x y ≡ differ x y
digit_xor zero y h l = refl
digit_xor (suc zero) zero h l = refl
digit_xor (suc zero) (suc zero) h l = refl
digit_xor (suc zero) (suc (suc y)) h l = absurd (not_digit l)
digit_xor (suc (suc x)) y h l = absurd (not_digit h)

digit_assoc : (x y z : ℕ) → x < 2 → y < 2 → z < 2 → differ (differ x y) z ≡ differ x (differ y z)
digit_assoc zero y z h l m = refl
digit_assoc (suc zero) zero z h l m = refl
digit_assoc (suc zero) (suc zero) zero h l m = refl
digit_assoc (suc zero) (suc zero) (suc zero) h l m = refl
digit_assoc (suc zero) (suc zero) (suc (suc z)) h l m = absurd (not_digit m)
digit_assoc (suc zero) (suc (suc y)) z h l m = absurd (not_digit l)
digit_assoc (suc (suc x)) y z h l m = absurd (not_digit h)

odd_differ : (a b : ℕ) → bit_xor a b % 2 ≡ differ (a % 2) (b % 2)
odd_differ a b = xor_odd a b ∙ digit_xor (a % 2) (b % 2) (digit a) (digit b)

-- ---- association and cancelling
pub xor_assoc : (a b c : ℕ) → bit_xor (bit_xor a b) c ≡ bit_xor a (bit_xor b c)
xor_assoc a =
    bin_ind (λ (n : ℕ). (b c : ℕ) → bit_xor (bit_xor n b) c ≡ bit_xor n (bit_xor b c)) (λ b c. refl)
    (λ n ih b c. xor_step (bit_xor n b) c
    ∙ ap₂ (λ (x y : ℕ). x * 2 + y)
    (ap (λ (x : ℕ). bit_xor x (c / 2)) (xor_half n b) ∙ ih (b / 2) (c / 2) ∙ ap (bit_xor (n / 2)) (sym (xor_half b c)))
    (ap (λ (x : ℕ). differ x (c % 2)) (odd_differ n b)
    ∙ digit_assoc (n % 2) (b % 2) (c % 2) (digit n) (digit b) (digit c)
    ∙ ap (differ (n % 2)) (sym (odd_differ b c)))
    ∙ sym (xor_step n (bit_xor b c))) a

pub xor_cancel_l : (a b : ℕ) → bit_xor a (bit_xor a b) ≡ b
xor_cancel_l a b = sym (xor_assoc a a b) ∙ ap (λ (x : ℕ). bit_xor x b) (xor_self a)

pub xor_cancel_r : (a b : ℕ) → bit_xor (bit_xor a b) b ≡ a
xor_cancel_r a b = xor_assoc a b b ∙ ap (bit_xor a) (xor_self b) ∙ xor_zero_r a

pub xor_left_comm : (a b c : ℕ) → bit_xor a (bit_xor b c) ≡ bit_xor b (bit_xor a c)
xor_left_comm a b c = sym (xor_assoc a b c) ∙ ap (λ (x : ℕ). bit_xor x c) (xor_comm a b) ∙ xor_assoc b a c

-- both sides of an equation of xors, sorted and cancelled
pub ruleset xors = (xor_assoc, xor_comm, xor_left_comm, xor_self, xor_cancel_l, xor_zero_r)

pub xor_swap : (a b c d : ℕ) → bit_xor (bit_xor a b) (bit_xor c d) ≡ bit_xor (bit_xor a c) (bit_xor b d)
xor_swap a b c d = simp xors

-- ---- shifts: to the left, also within a word of w bits (`lib.Bits` has `xor_shr`, to the right)
pub xor_shl : (a b k : ℕ) → bit_xor a b * 2 ^ k ≡ bit_xor (a * 2 ^ k) (b * 2 ^ k)
xor_shl a b k =
    sym (add-zero (bit_xor a b * 2 ^ k))
    ∙ sym (xor_block k a b 0 0 (pow_pos k) (pow_pos k))
    ∙ ap₂ bit_xor (add-zero (a * 2 ^ k)) (add-zero (b * 2 ^ k))

pub xor_shl_word : (w a b k : ℕ) → bit_xor a b * 2 ^ k % 2 ^ w ≡ bit_xor (a * 2 ^ k % 2 ^ w) (b * 2 ^ k % 2 ^ w)
xor_shl_word w a b k = ap (λ (n : ℕ). n % 2 ^ w) (xor_shl a b k) ∙ xor_mod (a * 2 ^ k) (b * 2 ^ k) w
