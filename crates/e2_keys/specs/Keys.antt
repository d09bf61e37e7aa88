-- E2's round keys: 001, 'Вычисление раундовых подключей'. 01 ('E2') repairs its print in places; each is named where it is.
use Rattle.std.specs.Prelude.{List, [], ◌∷◌, ◌++◌, ℕ, zero, suc, ◌+◌, ◌-◌, ◌*◌, ◌/◌, ◌%◌, length, get_or, drop}
use Rattle.laws.specs.Places.{tab, quarters}
use Rattle.laws.specs.Bytes.{xor_l}
use Rattle.e2_steps.specs.Steps.{S, P}

-- the constant 0123456789abcdef, 01 the left byte
abbrev pub g : List ℕ
g = 0x01 ∷ 0x23 ∷ 0x45 ∷ 0x67 ∷ 0x89 ∷ 0xab ∷ 0xcd ∷ 0xef ∷ []

-- K = (K0, K1, K2, K3), of a key of 128, 192 (001's first line prints 196) or 256 bits. 01 repairs what a short key lacks: K2 is S three times on g, K3 four
-- times, where 001 counts them as K3 and K4. A key of 192 bits lacks K3 alone
unfoldable pub full_key : List ℕ → List ℕ
full_key key = key ++ drop (length key - 16) (S (S (S g)) ++ S (S (S (S g))))

-- ---- G(X, U) = (L, Y, V), where X, L and Y are four sub-blocks of 8 bytes each, and V = L3
pub record Generated : Type 0 where
  pub L : List (List ℕ)
  pub Y : List (List ℕ)

-- Yi := P(S(Xi))
unfoldable pub Y : List (List ℕ) → List (List ℕ)
Y x = tab 4 (λ i. P (S (get_or x i [])))

-- L0 := Y0 ⊕ P(S(U)), Li := P(S(L(i-1))) ⊕ Yi for i = 1 .. 3. 01 repairs the second: 001 begins at 0 and prints no ⊕ Yi
unfoldable pub Li : List (List ℕ) → List ℕ → ℕ → List ℕ
Li y u zero = xor_l 8 (get_or y 0 []) (P (S u))
Li y u (suc i) = xor_l 8 (P (S (Li y u i))) (get_or y (suc i) [])

unfoldable pub L : List (List ℕ) → List ℕ → List (List ℕ)
L y u = tab 4 (Li y u)

unfoldable pub G : List (List ℕ) → List ℕ → Generated
G x u = record { L = L (Y x) u; Y = Y x }

-- G on (K, g), then n times on the Y and the V that came of it
unfoldable pub generation : List ℕ → ℕ → Generated
generation key zero = G (quarters 0 8 (full_key key)) g
generation key (suc n) = let r = generation key n in G r.Y (get_or r.L 3 [])

-- q0 .. q31: q(4i) .. q(4i+3) are the L of generation i + 1
unfoldable pub q : List ℕ → ℕ → List ℕ
q key j = get_or (generation key (suc (j / 4))).L (j % 4) []

-- k(2p+1) is byte p of q0, q2, .. q30; k(2p+2) is byte p of q1, q3, .. q31
unfoldable pub subkey : List ℕ → ℕ → List ℕ
subkey key i = tab 16 (λ n. get_or (q key (n * 2 + (i - 1) % 2)) ((i - 1) / 2) 0)

-- k1 .. k16
unfoldable pub round_keys : List ℕ → List ℕ
round_keys key = tab 256 (λ n. get_or (subkey key (suc (n / 16))) (n % 16) 0)
