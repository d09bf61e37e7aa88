-- The product of bytes modulo a polynomial p of degree 8: it stays a byte, is additive on both sides, and associates where it does so on single bits, a computed
-- test of 9 * 9 * 9 cases instead of 2^24.
use mathlib.Core.Path.{◌≡◌, refl, sym, ap, ap₂, ◌∙◌}
use mathlib.Core.Bool.{Bool}
use Prim.Native.Nat.{ℕ, zero, suc, ◌*◌, ◌/◌, ◌%◌, ◌^◌, ◌<◌}
use native.Mathlib.Nat.{mod-lt, zero-lt-suc}
use native.Mathlib.Omega.{arith}
use lib.Dec.{T, eqb, eqb→eq, lit<}
use lib.Bits.{bit_xor, xor_self, xor_zero_r, xor_shr, xor_lt}
use Rattle.laws.specs.Bytes.{Byte}
use Rattle.laws.specs.Matrix.{pick}
use Rattle.laws.specs.Field.{times_z, product_bits, product}
use Rattle.laws.proofs.Xor.{xor_half, xor_odd, xor_shl, xor_swap, not_digit}
use Rattle.laws.proofs.Matrix.{pick_adds, pick_lt}
use Rattle.laws.proofs.Additive.{bits_test, word_agree}

-- p has degree 8
abbrev pub Degree8 : ℕ → Type 0
Degree8 p = p / 2 ^ 8 ≡ 1

-- ---- a bit that picks
pick_xor : (a b c : ℕ) → a < 2 → b < 2 → pick bit_xor 0 (bit_xor a b) c ≡ bit_xor (pick bit_xor 0 a c) (pick bit_xor 0 b c)
pick_xor zero b c h l = refl
pick_xor (suc zero) zero c h l = sym (xor_zero_r c)
pick_xor (suc zero) (suc zero) c h l = sym (xor_self c)
pick_xor (suc zero) (suc (suc b)) c h l = absurd (not_digit l)
pick_xor (suc (suc a)) b c h l = absurd (not_digit h)

pick_high : (p b : ℕ) → Degree8 p → b < 2 → pick bit_xor 0 b p / 2 ^ 8 ≡ b
pick_high p zero d h = refl
pick_high p (suc zero) d h = d
pick_high p (suc (suc b)) d h = absurd (not_digit h)

top_bit : (a : ℕ) → Byte a → a / 128 < 2
top_bit a h = omega arith

last_bit : (a : ℕ) → a % 2 < 2
last_bit a = mod-lt a (zero-lt-suc 1)

-- ---- z times a byte
doubled_high : (a : ℕ) → Byte a → a * 2 / 2 ^ 8 ≡ a / 128
doubled_high a h = omega arith

byte_of_high : (x : ℕ) → x / 2 ^ 8 ≡ 0 → Byte x
byte_of_high x e = omega arith

pub times_z_lt : (p a : ℕ) → Degree8 p → Byte a → Byte (times_z p a)
times_z_lt p a d h =
    byte_of_high (times_z p a)
    (xor_shr (a * 2) (pick bit_xor 0 (a / 128) p) 8
    ∙ ap₂ bit_xor (doubled_high a h) (pick_high p (a / 128) d (top_bit a h)) ∙ xor_self (a / 128))

pub times_z_xor : (p a b : ℕ) → Byte a → Byte b → times_z p (bit_xor a b) ≡ bit_xor (times_z p a) (times_z p b)
times_z_xor p a b ha hb =
    ap₂ bit_xor (xor_shl a b 1)
    (ap (λ (n : ℕ). pick bit_xor 0 n p) (xor_shr a b 7) ∙ pick_xor (a / 128) (b / 128) p (top_bit a ha) (top_bit b hb))
    ∙ xor_swap (a * 2) (b * 2) (pick bit_xor 0 (a / 128) p) (pick bit_xor 0 (b / 128) p)

-- ---- the product stays a byte
bits_lt : (p n a b : ℕ) → Degree8 p → Byte a → Byte (product_bits p n a b)
bits_lt p zero a b d h = lit< tt
bits_lt p (suc n) a b d h =
    xor_lt 8 (pick bit_xor 0 (b % 2) a) (product_bits p n (times_z p a) (b / 2)) (pick_lt 8 (b % 2) a h) (bits_lt p n (times_z p a) (b / 2) d (times_z_lt p a d h))

pub product_lt : (p a b : ℕ) → Degree8 p → Byte a → Byte (product p a b)
unfolding product
product_lt p a b d h = bits_lt p 8 a b d h

-- ---- it is additive on the right, for all numbers, and on the left, for bytes
bits_xor_r : (p n a x y : ℕ) → product_bits p n a (bit_xor x y) ≡ bit_xor (product_bits p n a x) (product_bits p n a y)
bits_xor_r p zero a x y = refl
bits_xor_r p (suc n) a x y =
    ap₂ bit_xor
    (ap (λ (b : ℕ). pick bit_xor 0 b a) (xor_odd x y) ∙ pick_xor (x % 2) (y % 2) a (last_bit x) (last_bit y))
    (ap (product_bits p n (times_z p a)) (xor_half x y) ∙ bits_xor_r p n (times_z p a) (x / 2) (y / 2))
    ∙ xor_swap (pick bit_xor 0 (x % 2) a) (pick bit_xor 0 (y % 2) a) (product_bits p n (times_z p a) (x / 2)) (product_bits p n (times_z p a) (y / 2))

pub product_xor_r : (p a x y : ℕ) → product p a (bit_xor x y) ≡ bit_xor (product p a x) (product p a y)
unfolding product
product_xor_r p a x y = bits_xor_r p 8 a x y

bits_xor_l : (p n a b x : ℕ) → Degree8 p → Byte a → Byte b → product_bits p n (bit_xor a b) x ≡ bit_xor (product_bits p n a x) (product_bits p n b x)
bits_xor_l p zero a b x d ha hb = refl
bits_xor_l p (suc n) a b x d ha hb =
    ap₂ bit_xor (pick_adds (x % 2) a b)
    (ap (λ (m : ℕ). product_bits p n m (x / 2)) (times_z_xor p a b ha hb)
    ∙ bits_xor_l p n (times_z p a) (times_z p b) (x / 2) d (times_z_lt p a d ha) (times_z_lt p b d hb))
    ∙ xor_swap (pick bit_xor 0 (x % 2) a) (pick bit_xor 0 (x % 2) b) (product_bits p n (times_z p a) (x / 2)) (product_bits p n (times_z p b) (x / 2))

pub product_xor_l : (p a b x : ℕ) → Degree8 p → Byte a → Byte b → product p (bit_xor a b) x ≡ bit_xor (product p a x) (product p b x)
unfolding product
product_xor_l p a b x d ha hb = bits_xor_l p 8 a b x d ha hb

pub product_one : (p a : ℕ) → product p a 1 ≡ a
unfolding product
product_one p a = xor_zero_r a

-- ---- it associates
abbrev pub assoc_test : ℕ → Bool
assoc_test p = bits_test 8 (λ a. bits_test 8 (λ b. bits_test 8 (λ c. eqb (product p (product p a b) c) (product p a (product p b c)))))

module _ (p : ℕ) (d : Degree8 p) (u : T (assoc_test p)) where
  abbrev m : ℕ → ℕ → ℕ
  m = product p

  lt : (a b : ℕ) → Byte a → Byte (m a b)
  lt a b h = product_lt p a b d h

  -- for single bits a and b and all bytes c, then for a single bit a and all b, then for all a
  pub product_assoc : (a b c : ℕ) → Byte a → Byte b → Byte c → m (m a b) c ≡ m a (m b c)
  product_assoc a b c ha hb hc =
      word_agree bit_xor 8 (λ x. m (m x b) c) (λ x. m x (m b c))
      (λ x y hx hy. ap (λ (n : ℕ). m n c) (product_xor_l p x y b d hx hy) ∙ product_xor_l p (m x b) (m y b) c d (lt x b hx) (lt y b hy))
      (λ x y hx hy. product_xor_l p x y (m b c) d hx hy)
      (λ x. bits_test 8 (λ y. bits_test 8 (λ z. eqb (m (m x y) z) (m x (m y z)))))
      (λ x hx ux.
      word_agree bit_xor 8 (λ y. m (m x y) c) (λ y. m x (m y c))
      (λ y z hy hz. ap (λ (n : ℕ). m n c) (product_xor_r p x y z) ∙ product_xor_l p (m x y) (m x z) c d (lt x y hx) (lt x z hx))
      (λ y z hy hz. ap (m x) (product_xor_l p y z c d hy hz) ∙ product_xor_r p x (m y c) (m z c))
      (λ y. bits_test 8 (λ z. eqb (m (m x y) z) (m x (m y z))))
      (λ y hy uy.
      word_agree bit_xor 8 (λ z. m (m x y) z) (λ z. m x (m y z))
      (λ z v hz hv. product_xor_r p (m x y) z v)
      (λ z v hz hv. ap (m x) (product_xor_r p y z v) ∙ product_xor_r p x (m y z) (m y v))
      (λ z. eqb (m (m x y) z) (m x (m y z)))
      (λ z hz uz. eqb→eq (m (m x y) z) (m x (m y z)) uz) uy c hc)
      ux b hb)
      u a ha
