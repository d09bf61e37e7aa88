-- Demand 2, one theorem over all ciphers: under a good schedule, whatever its round keys, deciphering a block undoes enciphering it and the reverse; and an
-- enciphered block has 16 bytes.
use mathlib.Core.Path.{◌≡◌, refl}
use mathlib.Core.Bool.{false}
use mathlib.Core.List.{List}
use Prim.Native.Nat.{ℕ}
use lib.ListN.{length}
use Rattle.laws.specs.Bytes.{Bytes}
use Rattle.laws.specs.Inverse.{Inverse}
use Rattle.laws.proofs.Words.{words_each}
use Rattle.hierocrypt3.specs.Block as hierocrypt3-block
use Rattle.hierocrypt3_undo.proofs.Undo as hierocrypt3-undo
use Rattle.e2.specs.Block as e2-block
use Rattle.e2_undo.proofs.Undo as e2-undo
use Rattle.noekeon_steps.specs.Rule.{Rule, rule}
use Rattle.noekeon.specs.Noekeon as noekeon-block
use Rattle.noekeon_undo.proofs.Undo as noekeon-undo
use Rattle.cipher_numbers.proofs.Legal.{by_number}
use Rattle.cipher.specs.Schedule.{bad, enciphered, deciphered}
use Rattle.cipher.specs.declared.Schedule.{Schedule}
use Rattle.cipher.proofs.Answers.{good_length}

-- ---- the two directions undo one another, for any round keys
pub block_inverse : (s : Schedule) → bad s ≡ false → Bytes 288 s.round_keys → Inverse (Bytes 16) (enciphered s) (deciphered s)
unfolding enciphered deciphered
block_inverse s g h =
    by_number (λ c. Inverse (Bytes 16) (c.encipher s.key_length s.round_keys) (c.decipher s.key_length s.round_keys))
    (hierocrypt3-undo.encipher_inverse s.key_length s.round_keys h)
    (e2-undo.encipher_inverse s.round_keys h)
    (λ b. noekeon-undo.encipher_inverse b s.round_keys (words_each 8 288 s.round_keys h))
    s.cipher s.key_length (good_length s g)

-- ---- 16 bytes, of any list
hierocrypt3_long : (len : ℕ) (keys x : List ℕ) → length (hierocrypt3-block.encipher len keys x) ≡ 16
unfolding hierocrypt3-block.encipher
hierocrypt3_long len keys x = refl

e2_long : (keys x : List ℕ) → length (e2-block.encipher keys x) ≡ 16
unfolding e2-block.encipher e2-block.cipher e2-block.last
e2_long keys x = refl

noekeon_long : (r : Rule) (keys x : List ℕ) → length (noekeon-block.encipher r keys x) ≡ 16
unfolding noekeon-block.encipher
noekeon_long r keys x = refl

pub enciphered_long : (s : Schedule) → bad s ≡ false → (x : List ℕ) → length (enciphered s x) ≡ 16
unfolding enciphered
enciphered_long s g x =
    by_number (λ c. length (c.encipher s.key_length s.round_keys x) ≡ 16)
    (hierocrypt3_long s.key_length s.round_keys x) (e2_long s.round_keys x) (λ b. noekeon_long (rule b) s.round_keys x)
    s.cipher s.key_length (good_length s g)
