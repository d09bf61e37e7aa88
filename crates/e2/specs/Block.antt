-- E2, one block: 001, 'Алгоритм зашифрования' and 'Алгоритм расшифрования', for any sixteen round keys k 1 .. k 16. 01 ('E2') repairs its print in one place,
-- the last step.
use Rattle.std.specs.Prelude.{Bool, true, List, ◌++◌, ℕ, suc, ◌-◌, ◌*◌, ltb}
use Rattle.laws.specs.Choice.{choose}
use Rattle.laws.specs.Places.{tab, part}
use Rattle.laws.specs.Bytes.{xor_l}
use Rattle.laws.specs.Rounds.{feistel}
use Rattle.e2_steps.specs.Steps.{times, over, BP, BP⁻, BRL, S, P}

-- F(R, k), with kl and kr the left and the right half of k
unfoldable pub F : List ℕ → List ℕ → List ℕ
F r k = BRL (S (xor_l 8 (P (S (xor_l 8 r (part 0 0 8 k)))) (part 0 8 8 k)))

-- 1. M := BP((M ⊕ k13) ⊗ k14)
unfoldable pub first : (ℕ → List ℕ) → List ℕ → List ℕ
first k m = BP (times (xor_l 16 m (k 13)) (k 14))

-- 2. L := L ⊕ F(R, k i) for i = 1 .. 12, and L and R change places, except after the last
unfoldable pub rounds : (ℕ → List ℕ) → List ℕ → List ℕ
rounds k m = let p = feistel F (xor_l 8) (tab 12 (λ i. k (suc i))) (part 0 0 8 m, part 0 8 8 m) in p.0 ++ p.1

-- 3. C := (BP⁻(M) ⊘ k15) ⊕ k16. 01 repairs the division, which 001 prints as a dot in a circle
unfoldable pub last : (ℕ → List ℕ) → List ℕ → List ℕ
last k m = xor_l 16 (over (BP⁻ m) (k 15)) (k 16)

unfoldable pub cipher : (ℕ → List ℕ) → List ℕ → List ℕ
cipher k m = last k (rounds k (first k m))

-- which of k1 .. k16 stands in place i: ki itself, or, to decipher, that of k12, k11, .. k1, k16, k15, k14, k13
abbrev pub sequence : Bool → ℕ → ℕ
sequence back i = choose back (choose (ltb i 13) (13 - i) (29 - i)) i

abbrev pub reordered : (ℕ → List ℕ) → ℕ → List ℕ
reordered k i = k (sequence true i)

-- ---- on bytes: k1 .. k16 stand at the front of the round keys, 16 bytes each
abbrev pub round_key : List ℕ → ℕ → List ℕ
round_key keys i = part 0 ((i - 1) * 16) 16 keys

unfoldable pub encipher : List ℕ → List ℕ → List ℕ
encipher keys block = cipher (round_key keys) block

unfoldable pub decipher : List ℕ → List ℕ → List ℕ
decipher keys block = cipher (reordered (round_key keys)) block
