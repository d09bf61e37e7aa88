-- CMAC over any block function CIPH: NIST SP 800-38B, in its names and order, for blocks of b = 128 bits, messages of whole bytes, and Tlen = 128.
-- A block is a list of 16 bytes.
use Rattle.std.specs.Prelude.{List, [], ◌∷◌, ◌++◌, ℕ, zero, suc, ◌+◌, ◌-◌, ◌*◌, ◌/◌, ◌%◌, ◌^◌, eqb, length, take, drop, get_or, replicate}
use Rattle.laws.specs.Choice.{choose}
use Rattle.laws.specs.Places.{tab}
use Rattle.laws.specs.Bytes.{xor_l}
use Rattle.cbc.specs.Cbc.{blocks}

-- ---- 4: bit strings
-- the bits of a run of bytes, the highest of each byte first, and the n bytes of a run of bits
abbrev pub bits : List ℕ → List ℕ
bits [] = []
bits (x ∷ xs) = tab 8 (λ i. x / 2 ^ (7 - i) % 2) ++ bits xs

abbrev pub byte_of : List ℕ → ℕ
byte_of b =
    get_or b 0 0 * 128 + get_or b 1 0 * 64 + get_or b 2 0 * 32 + get_or b 3 0 * 16 + get_or b 4 0 * 8 + get_or b 5 0 * 4 + get_or b 6 0 * 2 + get_or b 7 0

abbrev pub bytes : ℕ → List ℕ → List ℕ
bytes zero b = []
bytes (suc n) b = byte_of (take 8 b) ∷ bytes n (drop 8 b)

-- MSB_1(X)
abbrev pub msb1 : List ℕ → ℕ
msb1 x = get_or (bits x) 0 0

-- X << 1: the leftmost bit is discarded, and a 0 is appended on the right
unfoldable pub shl1 : List ℕ → List ℕ
shl1 x = bytes (length x) (drop 1 (bits x) ++ 0 ∷ [])

-- 0^b
abbrev pub zero_block : List ℕ
zero_block = replicate 16 0

-- ---- 5.3: R_128 = 0^120 10000111, the last byte of which is 87 in hex
abbrev pub R128 : List ℕ
R128 = 0 ∷ 0 ∷ 0 ∷ 0 ∷ 0 ∷ 0 ∷ 0 ∷ 0 ∷ 0 ∷ 0 ∷ 0 ∷ 0 ∷ 0 ∷ 0 ∷ 0 ∷ 135 ∷ []

-- ---- 6.1: the subkeys
-- X doubled, as steps 2 and 3 have it
unfoldable pub doubled : List ℕ → List ℕ
doubled x = choose (eqb (msb1 x) 0) (shl1 x) (xor_l 16 (shl1 x) R128)

unfoldable pub L : (CIPH : List ℕ → List ℕ) → List ℕ
L CIPH = CIPH zero_block

abbrev pub K1 : (CIPH : List ℕ → List ℕ) → List ℕ
K1 CIPH = doubled (L CIPH)

abbrev pub K2 : (CIPH : List ℕ → List ℕ) → List ℕ
K2 CIPH = doubled (K1 CIPH)

-- ---- 6.2, steps 2 and 3: n blocks, of which M_1 to M_(n-1) are complete, and M_n* is the last
-- n, for a message of so many bytes
abbrev pub block_number : ℕ → ℕ
block_number len = choose (eqb len 0) 1 ((len + 15) / 16)

-- n - 1
unfoldable pub earlier : ℕ → ℕ
earlier len = block_number len - 1

abbrev pub complete : List ℕ → List (List ℕ)
complete m = blocks (earlier (length m)) m

abbrev pub final : List ℕ → List ℕ
final m = drop (16 * earlier (length m)) m

-- how many bytes M_n* has
abbrev pub final_length : ℕ → ℕ
final_length len = len - 16 * earlier len

-- ---- step 4: M_n of M_n*
-- M_n* || 10^j
abbrev pub padded : List ℕ → List ℕ
padded m = m ++ 128 ∷ replicate (15 - length m) 0

unfoldable pub last : (k₁ k₂ m : List ℕ) → List ℕ
last k₁ k₂ m = choose (eqb (length m) 16) (xor_l 16 k₁ m) (xor_l 16 k₂ (padded m))

-- ---- steps 5 and 6: C_i = CIPH(C_(i-1) ⊕ M_i), from C_0 = c
abbrev pub chained : (CIPH : List ℕ → List ℕ) → List ℕ → List (List ℕ) → List ℕ
chained CIPH c [] = c
chained CIPH c (m ∷ ms) = chained CIPH (CIPH (xor_l 16 c m)) ms

-- ---- steps 1 to 8: T
unfoldable pub cmac : (CIPH : List ℕ → List ℕ) → List ℕ → List ℕ
cmac CIPH m = chained CIPH zero_block (complete m ++ last (K1 CIPH) (K2 CIPH) (final m) ∷ [])

-- ---- cutting
-- the blocks that n more bytes put before the last one, on a count c
abbrev pub pushed : ℕ → ℕ → ℕ
pushed c n = earlier (c + n) - earlier c
