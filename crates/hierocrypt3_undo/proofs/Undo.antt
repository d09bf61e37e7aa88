-- Deciphering undoes enciphering and the reverse (002, section 2.2), step by step, for all round keys.
use mathlib.Core.Path.{sym}
use mathlib.Core.List.{List, []}
use Prim.Native.Nat.{ℕ, ◌+◌, ◌-◌, ◌*◌, ◌/◌, ◌%◌, ◌≤◌}
use native.Mathlib.Omega.{arith}
use lib.Bits.{bit_xor}
use lib.ListN.{get_or}
use Rattle.laws.specs.Places.{layer, part, quarters, joined}
use Rattle.laws.specs.Bytes.{Byte, Bytes}
use Rattle.laws.specs.Inverse.{Inverse}
use Rattle.laws.proofs.Places.{tab_self, each_tab}
use Rattle.laws.proofs.Words.{byte_at}
use Rattle.laws.proofs.Inverse.{and_then, rounds, at_each, xored, through}
use Rattle.hierocrypt3_tables.specs.Operations.{s, s⁻, mds_l, mds_l⁻}
use Rattle.hierocrypt3_steps.specs.Operations.{S, S⁻, MDSL, MDSL⁻}
use Rattle.hierocrypt3.specs.Block.{T, add_key, first_half, second_half, round_key, XS, XS⁻, ρ, ρ⁻, encryption, decryption, encipher, decipher}
use Rattle.hierocrypt3_undo.proofs.Substitution.{s_inverse}
use Rattle.hierocrypt3_undo.proofs.MdsL.{mds_l_inverse}
use Rattle.hierocrypt3_steps.proofs.Blocks.{Block, block_columns, nth}
use Rattle.hierocrypt3_undo.proofs.MdsH.{mds_h_inverse}

-- ---- the steps
pub S_inverse : Inverse Block S S⁻
unfolding S S⁻
S_inverse = at_each [] 4 (λ i. layer 4 0 (λ j. s)) (λ i. layer 4 0 (λ j. s⁻)) (λ i h. at_each 0 4 (λ j. s) (λ j. s⁻) (λ j l. s_inverse))

pub MDSL_inverse : Inverse Block MDSL MDSL⁻
unfolding MDSL MDSL⁻
MDSL_inverse = at_each [] 4 (λ i. mds_l) (λ i. mds_l⁻) (λ i h. mds_l_inverse)

pub add_key_inverse : (k : List ℕ) → Bytes 16 k → Inverse Block (add_key k) (add_key k)
unfolding add_key
add_key_inverse k w =
    let byte : ℕ → ℕ → ℕ → ℕ = λ i j x. bit_xor x (get_or k (i * 4 + j) 0) in
    at_each [] 4 (λ i. layer 4 0 (byte i)) (λ i. layer 4 0 (byte i))
    (λ i h. at_each 0 4 (byte i) (byte i) (λ j l. xored 8 (get_or k (i * 4 + j) 0) (byte_at 16 k (i * 4 + j) w)))

-- ---- the rounds, with a key of 32 bytes
bytes_part : (from n m : ℕ) (xs : List ℕ) → Bytes m xs → Bytes n (part 0 from n xs)
bytes_part from n m xs w = each_tab Byte 0 n (λ j. get_or xs (from + j) 0) (λ j h. byte_at m xs (from + j) w)

module _ (k : List ℕ) (w : Bytes 32 k) where
  first : Inverse Block (add_key (first_half k)) (add_key (first_half k))
  first = add_key_inverse (first_half k) (bytes_part 0 16 32 k w)

  second : Inverse Block (add_key (second_half k)) (add_key (second_half k))
  second = add_key_inverse (second_half k) (bytes_part 16 16 32 k w)

  pub XS_inverse : Inverse Block (XS k) (XS⁻ k)
  unfolding XS XS⁻
  XS_inverse = and_then (and_then (and_then (and_then first S_inverse) MDSL_inverse) second) S_inverse

  pub ρ_inverse : Inverse Block (ρ k) (ρ⁻ k)
  unfolding ρ ρ⁻
  ρ_inverse = and_then XS_inverse mds_h_inverse

-- ---- the cipher, for all round keys 1 to n + 2
pub encryption_inverse : (n : ℕ) (k : ℕ → List ℕ) → ((t : ℕ) → 1 ≤ t → t ≤ n + 2 → Bytes 32 (k t)) → Inverse Block (encryption n k) (decryption n k)
unfolding encryption decryption
encryption_inverse n k w =
    and_then
    (and_then (rounds n (λ i. ρ (k (i + 1))) (λ i. ρ⁻ (k (i + 1))) (λ i h. ρ_inverse (k (i + 1)) (w (i + 1) (omega arith) (omega arith))))
    (XS_inverse (k (n + 1)) (w (n + 1) (omega arith) (omega arith))))
    (first (k (n + 2)) (w (n + 2) (omega arith) (omega arith)))

-- ---- on bytes
quarters_block : (x : List ℕ) → Bytes 16 x → Block (quarters 0 4 x)
quarters_block x w = each_tab (Bytes 4) [] 4 (λ i. part 0 (i * 4) 4 x) (λ i h. bytes_part (i * 4) 4 16 x w)

joined_bytes : (y : List (List ℕ)) → Block y → Bytes 16 (joined 0 4 y)
joined_bytes y w = each_tab Byte 0 16 (nth y) (λ n h. (w.each (n / 4) (omega arith)).each (n % 4) (omega arith))

pub encipher_inverse : (len : ℕ) (keys : List ℕ) → Bytes 288 keys → Inverse (Bytes 16) (encipher len keys) (decipher len keys)
unfolding encipher decipher
encipher_inverse len keys w =
    through (quarters 0 4) (joined 0 4) quarters_block joined_bytes
    (λ x v. sym (tab_self 16 0 x v.long)) (λ y v. sym (block_columns y v))
    (encryption_inverse (T len - 1) (round_key keys) (λ t l h. bytes_part ((t - 1) * 32) 32 288 keys w))
