-- The two fields that the documents name: that of z^8 + z^6 + z^5 + z + 1, and that of x^8 + x^4 + x^3 + x + 1. In each the product associates, which antt computes,
-- so that powers by squaring are its powers.
use mathlib.Core.Path.{◌≡◌, refl}
use Prim.Native.Nat.{ℕ}
use lib.Dec.{T}
use Rattle.laws.specs.Bytes.{Byte}
use Rattle.laws.specs.Field.{product, power}
use Rattle.laws.proofs.Field.{assoc_test}
use Rattle.laws.proofs.Power.{power_bits, power_bits_is}

assoc_163 : T (assoc_test 0x163)
unfolding product
assoc_163 = tt

assoc_11b : T (assoc_test 0x11b)
unfolding product
assoc_11b = tt

pub power_163 : (a n : ℕ) → Byte a → Byte n → power_bits 0x163 8 a n ≡ power 0x163 a n
power_163 = power_bits_is 0x163 refl assoc_163 8

pub power_11b : (a n : ℕ) → Byte a → Byte n → power_bits 0x11b 8 a n ≡ power 0x11b a n
power_11b = power_bits_is 0x11b refl assoc_11b 8
