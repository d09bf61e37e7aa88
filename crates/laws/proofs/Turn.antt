-- A rotation stays within its word, is undone by the one the other way, goes past xor, and is what `(x << k) | (x >> j)` computes in a word of j + k bits.
use mathlib.Core.Path.{◌≡◌, sym, ap, ap₂, ◌∙◌, subst}
use Prim.Native.Nat.{ℕ, ◌+◌, ◌*◌, ◌/◌, ◌%◌, ◌^◌, ◌<◌}
use native.Mathlib.Nat.{mod-lt, mul-div_cancel, mul-mod_left, add-zero, add_comm}
use lib.Arith.{mod-mul, digits_lt}
use lib.Pow.{pow_pos, pow-add, split, high, low, shr_lt}
use lib.Bits.{bit_or, bit_xor, or_shifted, xor_block, xor_mod, xor_shr}
use Rattle.laws.specs.Bytes.{Word}
use Rattle.laws.specs.Turn.{turn}

-- `x << k` in a word of j + k bits keeps x's j low bits
pub shl_low : (x j k : ℕ) → x * 2 ^ k % 2 ^ (j + k) ≡ (x % 2 ^ j) * 2 ^ k
shl_low x j k =
    ap (λ (m : ℕ). x * 2 ^ k % m) (pow-add 2 j k)
    ∙ mod-mul (x * 2 ^ k) (pow_pos j) (pow_pos k)
    ∙ ap₂ (λ (p q : ℕ). (p % 2 ^ j) * 2 ^ k + q) (mul-div_cancel x (pow_pos k)) (mul-mod_left x (2 ^ k))
    ∙ add-zero ((x % 2 ^ j) * 2 ^ k)

high_bits : (j k x : ℕ) → Word (j + k) x → x / 2 ^ j < 2 ^ k
high_bits j k x h = shr_lt k j (subst (λ (n : ℕ). x < 2 ^ n) (add_comm j k) h)

pub turn_code : (j k x : ℕ) → Word (j + k) x → bit_or (x * 2 ^ k % 2 ^ (j + k)) (x / 2 ^ j) ≡ turn j k x
turn_code j k x h = ap (λ (n : ℕ). bit_or n (x / 2 ^ j)) (shl_low x j k) ∙ or_shifted (x % 2 ^ j) k (x / 2 ^ j) (high_bits j k x h)

pub turn_lt : (j k x : ℕ) → Word (j + k) x → Word (j + k) (turn j k x)
turn_lt j k x h = subst (λ (n : ℕ). turn j k x < n) (sym (pow-add 2 j k)) (digits_lt (mod-lt x (pow_pos j)) (high_bits j k x h))

pub turn_undo : (j k x : ℕ) → Word (j + k) x → turn k j (turn j k x) ≡ x
turn_undo j k x h =
    let l : x / 2 ^ j < 2 ^ k = high_bits j k x h in
    ap₂ (λ (p q : ℕ). p * 2 ^ j + q) (low (x % 2 ^ j) k l) (high (x % 2 ^ j) k l) ∙ split x j

pub turn_xor : (j k x y : ℕ) → Word (j + k) x → Word (j + k) y → turn j k (bit_xor x y) ≡ bit_xor (turn j k x) (turn j k y)
turn_xor j k x y h l =
    ap₂ (λ (p q : ℕ). p * 2 ^ k + q) (xor_mod x y j) (xor_shr x y j)
    ∙ sym (xor_block k (x % 2 ^ j) (y % 2 ^ j) (x / 2 ^ j) (y / 2 ^ j) (high_bits j k x h) (high_bits j k y l))
