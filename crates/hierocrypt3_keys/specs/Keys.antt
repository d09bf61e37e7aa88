-- Hierocrypt-3's round keys: 002, section 2.3, in its order, with 01's repairs ('Hierocrypt-3'). An intermediate key Z is Z1 to Z4, eight bytes each. The
-- constants of section 2.3.1 are in hierocrypt3_tables/Constants.
use Rattle.std.specs.Prelude.{List, ◌++◌, ℕ, zero, suc, ◌+◌, ◌-◌, ◌*◌, ◌/◌, ◌%◌, leb, length, get_or}
use Rattle.laws.specs.Choice.{choose}
use Rattle.laws.specs.Places.{tab, part}
use Rattle.laws.specs.Bytes.{xor_l}
use Rattle.hierocrypt3_keys.specs.Operations.{P, P⁻, M5E, MB3, Fσ}
use Rattle.hierocrypt3_tables.specs.Constants.{by_length, H2, H3, G0, constant}
use Rattle.hierocrypt3_steps.specs.Rounds.{T}
use Rattle.hierocrypt3_keys.specs.declared.Intermediate.{Intermediate}

infixl 60 ◌⊕◌
abbrev pub ◌⊕◌ : List ℕ → List ℕ → List ℕ
x ⊕ y = xor_l 8 x y

-- t_turn, the last step of the plaintext side
abbrev pub t_turn : ℕ → ℕ
t_turn len = by_length len 4 4 5

-- ---- padding and pre-whitening (section 2.3.2). 002 says that keys of 192 and 256 bits are padded; those of 128 and 192 are (01), with the H of 01,
-- whose digits the print has lost
abbrev pub quarter : List ℕ → ℕ → List ℕ
quarter k i = part 0 (i * 8) 8 k

unfoldable pub padding : List ℕ → Intermediate
padding key =
    let k : ℕ → List ℕ = quarter key in
    record { z1 = k 0; z2 = k 1; z3 = by_length (length key) (k 0) (k 2) (k 2); z4 = by_length (length key) (H3 ++ H2) (H2 ++ H3) (k 3) }

unfoldable pub σ0 : List ℕ → Intermediate → Intermediate
σ0 g z =
    let z3 = M5E z.z3 ⊕ g in
    let z4 = M5E z.z4 in
    record { z1 = z.z2; z2 = z.z1 ⊕ Fσ (z.z2 ⊕ z3); z3 = z3; z4 = z4 }

-- ---- the intermediate keys (section 2.3.3)
-- σ is σ0 on Z1, Z2, W1, W2, where W1 W2 = P^(32)(Z3 Z4)
unfoldable pub σ : List ℕ → Intermediate → Intermediate
σ g z =
    let w = P 4 (z.z3 ++ z.z4) in
    σ0 g (record { z1 = z.z1; z2 = z.z2; z3 = part 0 0 8 w; z4 = part 0 8 8 w })

-- σ⁻ departs from 002's formula three times, as 01 and 000 have it: the constant of step t is that of row t and not of the row before; it is xored in
-- before MB3 and not behind it; and P^(32) is inverse, whose -1 the print has lost. That it undoes σ is `σ_inverse`, hierocrypt3_undo/Sigma.
abbrev pub W1 : List ℕ → Intermediate → List ℕ
W1 g z = MB3 (z.z3 ⊕ g)

abbrev pub W2 : Intermediate → List ℕ
W2 z = MB3 z.z4

unfoldable pub σ⁻ : List ℕ → Intermediate → Intermediate
σ⁻ g z =
    let x = P⁻ 4 (W1 g z ++ W2 z) in
    record { z1 = z.z2 ⊕ Fσ (z.z1 ⊕ z.z3); z2 = z.z1; z3 = part 0 0 8 x; z4 = part 0 8 8 x }

-- step t, for a key of `len` bytes: up to t_turn on the plaintext side, then on the ciphertext side
unfoldable pub next : ℕ → ℕ → Intermediate → Intermediate
next len t z = choose (leb t (t_turn len)) (σ (constant len t) z) (σ⁻ (constant len t) z)

-- that they are symmetric about t_turn is `Z_symmetric`, hierocrypt3_undo/Symmetry
unfoldable pub Z : List ℕ → ℕ → Intermediate
Z key zero = σ0 (G0 5) (padding key)
Z key (suc t) = next (length key) (suc t) (Z key t)

-- ---- the round keys (section 2.3.4), K1 K2 K3 K4, from the intermediate keys before and after step t. 000 prints other ones; 002 decides (01)
unfoldable pub plaintext_side : Intermediate → Intermediate → List ℕ
plaintext_side before z =
    let v = Fσ (before.z2 ⊕ z.z3) in
    (before.z1 ⊕ v) ++ (z.z3 ⊕ v) ++ (z.z4 ⊕ v) ++ (before.z2 ⊕ z.z4)

unfoldable pub ciphertext_side : List ℕ → Intermediate → Intermediate → List ℕ
ciphertext_side g before z =
    let v = Fσ (before.z1 ⊕ before.z3) in
    (z.z1 ⊕ before.z3) ++ (W1 g before ⊕ v) ++ (W2 before ⊕ v) ++ (before.z1 ⊕ W2 before)

unfoldable pub key_of : ℕ → ℕ → Intermediate → Intermediate → List ℕ
key_of len t before z = choose (leb t (t_turn len)) (plaintext_side before z) (ciphertext_side (constant len t) before z)

unfoldable pub K : List ℕ → ℕ → List ℕ
K key t = key_of (length key) t (Z key (t - 1)) (Z key t)

-- the keys 1 to T + 1
unfoldable pub round_keys : List ℕ → List ℕ
round_keys key = tab ((T (length key) + 1) * 32) (λ n. get_or (K key (suc (n / 32))) (n % 32) 0)
