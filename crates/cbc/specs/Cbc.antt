-- Cipher block chaining over lists of blocks, for any block functions E and D: NIST SP 800-38A, section 6.2, and 01, 'Refusal numbers', last paragraph.
-- A block is a list of 16 bytes.
use Rattle.std.specs.Prelude.{◌≡◌, List, [], ◌∷◌, ◌++◌, ℕ, zero, suc, ◌+◌, ◌-◌, ◌*◌, ◌/◌, eqb, length, take, drop}
use Rattle.laws.specs.Choice.{choose}
use Rattle.laws.specs.Bytes.{Bytes, xor_l}

-- ---- C(j) = E(P(j) xor C(j-1)) and P(j) = D(C(j)) xor C(j-1), with C(0) = c
abbrev pub cbc_encryption : (List ℕ → List ℕ) → List ℕ → List (List ℕ) → List (List ℕ)
cbc_encryption E c [] = []
cbc_encryption E c (p ∷ ps) = E (xor_l 16 p c) ∷ cbc_encryption E (E (xor_l 16 p c)) ps

abbrev pub cbc_decryption : (List ℕ → List ℕ) → List ℕ → List (List ℕ) → List (List ℕ)
cbc_decryption D c [] = []
cbc_decryption D c (x ∷ xs) = xor_l 16 (D x) c ∷ cbc_decryption D x xs

-- the last block, or c where there is none
abbrev pub last_or : List ℕ → List (List ℕ) → List ℕ
last_or c [] = c
last_or c (x ∷ xs) = last_or x xs

-- ---- in a direction: 1 enciphers, any other deciphers
-- the blocks that go out
unfoldable pub out : (E D : List ℕ → List ℕ) → ℕ → List ℕ → List (List ℕ) → List (List ℕ)
out E D d c bs = choose (eqb d 1) (cbc_encryption E c bs) (cbc_decryption D c bs)

-- the chain block behind them: the last ciphertext block, or c
unfoldable pub chain : (E : List ℕ → List ℕ) → ℕ → List ℕ → List (List ℕ) → List ℕ
chain E d c bs = choose (eqb d 1) (last_or c (cbc_encryption E c bs)) (last_or c bs)

-- ---- bytes and blocks
-- the blocks' bytes in a row
abbrev pub join : List (List ℕ) → List ℕ
join [] = []
join (b ∷ bs) = b ++ join bs

-- the first n blocks of a message
abbrev pub blocks : ℕ → List ℕ → List (List ℕ)
blocks zero l = []
blocks (suc n) l = take 16 l ∷ blocks n (drop 16 l)

-- the whole blocks of a message, and the bytes behind them
abbrev pub whole : List ℕ → List (List ℕ)
whole l = blocks (length l / 16) l

abbrev pub rest : List ℕ → List ℕ
rest l = drop (16 * (length l / 16)) l

-- the blocks that n more bytes complete on a count c
abbrev pub completed : ℕ → ℕ → ℕ
completed c n = (c + n) / 16 - c / 16

-- n blocks of a message w, from the chain block c to the front of an output o: `last` is the chain block behind them, and o' the output then
pub record Chained (E D : List ℕ → List ℕ) (d : ℕ) (c w o : List ℕ) (n : ℕ) (last o' : List ℕ) : Type 0 where
  pub last_is : last ≡ chain E d c (blocks n w)
  pub out_is : o' ≡ join (out E D d c (blocks n w)) ++ drop (16 * n) o

-- the CBC answer over the whole blocks of a message
unfoldable pub answer : (E D : List ℕ → List ℕ) → ℕ → List ℕ → List ℕ → List ℕ
answer E D d c l = join (out E D d c (whole l))

-- every block of a list is one
abbrev pub Blocks : List (List ℕ) → Type 0
Blocks [] = Unit {0}
Blocks (b ∷ bs) = Bytes 16 b × Blocks bs
