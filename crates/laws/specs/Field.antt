-- The field of 2^8 elements. A byte is a polynomial of degree below 8, its highest bit the coefficient of z^7; p is the polynomial of degree 8 that is taken for 0,
-- so that z^8 + z^6 + z^5 + z + 1 is 0x163 and x^8 + x^4 + x^3 + x + 1 is 0x11b.
use Rattle.std.specs.Prelude.{ℕ, zero, suc, ◌*◌, ◌/◌, ◌%◌}
use Rattle.std.specs.Int.Bits.{bit_xor}
use Rattle.laws.specs.Matrix.{pick}

-- z times a; where that has degree 8, p is taken away
abbrev pub times_z : ℕ → ℕ → ℕ
times_z p a = bit_xor (a * 2) (pick bit_xor 0 (a / 128) p)

-- a times the n low bits of b: a, z a, z^2 a .. added up where b has a bit
abbrev pub product_bits : ℕ → ℕ → ℕ → ℕ → ℕ
product_bits p zero a b = 0
product_bits p (suc n) a b = bit_xor (pick bit_xor 0 (b % 2) a) (product_bits p n (times_z p a) (b / 2))

unfoldable pub product : ℕ → ℕ → ℕ → ℕ
product p a b = product_bits p 8 a b

-- a times itself, n times
unfoldable pub power : ℕ → ℕ → ℕ → ℕ
power p a zero = 1
power p a (suc n) = product p (power p a n) a
