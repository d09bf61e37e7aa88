-- Hierocrypt-3 on a byte and on a column of four: s and mds_L, 002, sections 3.6 and 3.7, in its names.
use Rattle.std.specs.Prelude.{List, [], ◌∷◌, map, ℕ, ◌-◌, ◌*◌, ◌+◌, ◌/◌, ◌%◌, ◌^◌}
use Rattle.std.specs.Int.Bits.{bit_xor}
use Rattle.laws.specs.Matrix.{matrix}
use Rattle.laws.specs.Field.{product, power}

-- the field of z^8 + z^6 + z^5 + z + 1 (section 3.7)
abbrev pub p : ℕ
p = 0x163

-- ---- s: permute the bits, power 247, xor 07
-- Section 3.6 has s by its table alone, in which some entries are misprinted. The rule is that of 01, which decides, and of 000, whose print of the powers
-- 247 and 223 is broken.
-- bit i of a byte, bit 1 the highest
abbrev pub bit : ℕ → ℕ → ℕ
bit x i = x / 2 ^ (8 - i) % 2

-- the byte of these bits, the highest first
abbrev pub from_bits : ℕ → List ℕ → ℕ
from_bits high [] = high
from_bits high (b ∷ bs) = from_bits (high * 2 + b) bs

-- bit i of the new byte is that bit of x
abbrev pub bits : List ℕ → ℕ → ℕ
bits places x = from_bits 0 (map (bit x) places)

unfoldable pub permute_bits : ℕ → ℕ
permute_bits = bits (3 ∷ 7 ∷ 5 ∷ 8 ∷ 6 ∷ 2 ∷ 4 ∷ 1 ∷ [])

unfoldable pub permute_bits⁻ : ℕ → ℕ
permute_bits⁻ = bits (8 ∷ 6 ∷ 1 ∷ 7 ∷ 3 ∷ 5 ∷ 2 ∷ 4 ∷ [])

unfoldable pub s : ℕ → ℕ
s x = bit_xor (power p (permute_bits x) 247) 0x07

-- `s_inverse`, hierocrypt3_undo/Substitution, decides that this is the inverse
unfoldable pub s⁻ : ℕ → ℕ
s⁻ y = permute_bits⁻ (power p (bit_xor y 0x07) 223)

-- ---- mds_L (section 3.7)
abbrev pub rows_l : List (List ℕ)
rows_l =
    (0xc4 ∷ 0x65 ∷ 0xc8 ∷ 0x8b ∷ [])
    ∷ (0x8b ∷ 0xc4 ∷ 0x65 ∷ 0xc8 ∷ [])
    ∷ (0xc8 ∷ 0x8b ∷ 0xc4 ∷ 0x65 ∷ [])
    ∷ (0x65 ∷ 0xc8 ∷ 0x8b ∷ 0xc4 ∷ [])
    ∷ []

-- 000 has the inverse, 002 has not; `mds_l_inverse`, hierocrypt3_undo/MdsL, decides it
abbrev pub rows_l⁻ : List (List ℕ)
rows_l⁻ =
    (0x82 ∷ 0xc4 ∷ 0x34 ∷ 0xf6 ∷ [])
    ∷ (0xf6 ∷ 0x82 ∷ 0xc4 ∷ 0x34 ∷ [])
    ∷ (0x34 ∷ 0xf6 ∷ 0x82 ∷ 0xc4 ∷ [])
    ∷ (0xc4 ∷ 0x34 ∷ 0xf6 ∷ 0x82 ∷ [])
    ∷ []

unfoldable pub mds_l : List ℕ → List ℕ
mds_l = matrix bit_xor 0 0 (product p) 4 rows_l

unfoldable pub mds_l⁻ : List ℕ → List ℕ
mds_l⁻ = matrix bit_xor 0 0 (product p) 4 rows_l⁻
