-- Hierocrypt-3, one block: 002, sections 2.1, 2.2, 3.1 and 3.3, for any round keys k 1 .. k (T + 1) of 32 bytes each.
use Rattle.std.specs.Prelude.{List, [], ℕ, ◌+◌, ◌-◌, ◌*◌, get_or}
use Rattle.std.specs.Int.Bits.{bit_xor}
use Rattle.laws.specs.Places.{layer, part, quarters, joined}
use Rattle.laws.specs.Rounds.{steps, back}
pub use Rattle.hierocrypt3_steps.specs.Rounds.{T}
use Rattle.hierocrypt3_steps.specs.Operations.{S, S⁻, MDSL, MDSL⁻, MDSH, MDSH⁻}

-- X ⊕ the 16 bytes of k
unfoldable pub add_key : List ℕ → List (List ℕ) → List (List ℕ)
add_key k = layer 4 [] (λ i. layer 4 0 (λ j x. bit_xor x (get_or k (i * 4 + j) 0)))

abbrev pub first_half : List ℕ → List ℕ
first_half k = part 0 0 16 k

abbrev pub second_half : List ℕ → List ℕ
second_half k = part 0 16 16 k

-- ---- XS (section 3.3) and ρ (section 3.1). 000 prints an XS without the inner S and with the second half of the key outside; section 3.3 decides (01)
unfoldable pub XS : List ℕ → List (List ℕ) → List (List ℕ)
XS k x = S (add_key (second_half k) (MDSL (S (add_key (first_half k) x))))

unfoldable pub XS⁻ : List ℕ → List (List ℕ) → List (List ℕ)
XS⁻ k x = add_key (first_half k) (S⁻ (MDSL⁻ (add_key (second_half k) (S⁻ x))))

unfoldable pub ρ : List ℕ → List (List ℕ) → List (List ℕ)
ρ k x = MDSH (XS k x)

unfoldable pub ρ⁻ : List ℕ → List (List ℕ) → List (List ℕ)
ρ⁻ k x = XS⁻ k (MDSH⁻ x)

-- ---- encryption (section 2.1) and decryption (section 2.2) in T = n + 1 rounds
unfoldable pub encryption : ℕ → (ℕ → List ℕ) → List (List ℕ) → List (List ℕ)
encryption n k x = add_key (first_half (k (n + 2))) (XS (k (n + 1)) (steps n (λ i. ρ (k (i + 1))) x))

unfoldable pub decryption : ℕ → (ℕ → List ℕ) → List (List ℕ) → List (List ℕ)
decryption n k x = back n (λ i. ρ⁻ (k (i + 1))) (XS⁻ (k (n + 1)) (add_key (first_half (k (n + 2))) x))

-- ---- on bytes: the keys 1 to T + 1 stand at the front of the round keys
abbrev pub round_key : List ℕ → ℕ → List ℕ
round_key keys t = part 0 ((t - 1) * 32) 32 keys

unfoldable pub encipher : ℕ → List ℕ → List ℕ → List ℕ
encipher len keys block = joined 0 4 (encryption (T len - 1) (round_key keys) (quarters 0 4 block))

unfoldable pub decipher : ℕ → List ℕ → List ℕ → List ℕ
decipher len keys block = joined 0 4 (decryption (T len - 1) (round_key keys) (quarters 0 4 block))
