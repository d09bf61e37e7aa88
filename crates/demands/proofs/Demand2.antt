-- Demand 2, as a user sees it: for every legal key that isn't blank the entry's block is the written definition's under the round keys that its definition makes
-- of the key, and the two directions undo one another.
use mathlib.Core.Path.{◌≡◌, refl}
use mathlib.Core.Bool.{true}
use mathlib.Core.List.{List, ◌++◌}
use Prim.Native.Nat.{ℕ, ◌≤◌}
use lib.ListN.{length, get_or, drop}
use borrow.Author.Tests.{eq-eqb, le-ltb}
use Rattle.laws.specs.Bytes.{Byte, Bytes}
use Rattle.laws.specs.Inverse.{Inverse}
use Rattle.laws.proofs.Places.{each_tab}
use Rattle.laws.proofs.Words.{Words, word_at_lem, words_each}
use Rattle.hierocrypt3_undo.proofs.KeyBytes as hierocrypt3-bytes
use Rattle.e2_undo.proofs.KeyBytes as e2-bytes
use Rattle.refusals.specs.Refusals.{done}
use Rattle.cipher_numbers.specs.Ciphers.{number, is_length, is_direction, padded}
use Rattle.cipher_numbers.proofs.Legal.{by_number, legal_cipher}
use Rattle.cipher.specs.Schedule.{enciphered, deciphered}
use Rattle.cipher.specs.Calls.{Usable, schedule}
use Rattle.entry.specs.Entry.{entry_refusal, worked, entry_out}
use Rattle.demands.proofs.Keys.{set_up_good}
use Rattle.demands.proofs.Undo.{block_inverse}

-- the round keys that the definition makes of the key, zeros behind
abbrev pub keys : ℕ → List ℕ → List ℕ
keys c key = padded ((number c).round_keys key)

-- ---- the block is the definition's
module _ (c : ℕ) (key : List ℕ) (usable : Usable c key) where
  pub enciphers : (x o : List ℕ) → length x ≡ 16 → 16 ≤ length o
      → (entry_refusal c 1 key (length x) (length o) ≡ done) × (entry_out c 1 key x o ≡ (number c).encipher (length key) (keys c key) x ++ drop 16 o)
  unfolding entry_out entry_refusal is_direction worked enciphered schedule
  enciphers x o h r =
      rw (legal_cipher c (length key) usable.legal, usable.legal, usable.not_blank, eq-eqb _ _ h, le-ltb _ _ r) (refl, refl)

  pub deciphers : (x o : List ℕ) → length x ≡ 16 → 16 ≤ length o
      → (entry_refusal c 2 key (length x) (length o) ≡ done) × (entry_out c 2 key x o ≡ (number c).decipher (length key) (keys c key) x ++ drop 16 o)
  unfolding entry_out entry_refusal is_direction worked deciphered schedule
  deciphers x o h r =
      rw (legal_cipher c (length key) usable.legal, usable.legal, usable.not_blank, eq-eqb _ _ h, le-ltb _ _ r) (refl, refl)

-- ---- the directions undo one another, under a blank key too: `small` is what every byte of a slice is
module _ (c : ℕ) (key : List ℕ) (legal : is_length c (length key) ≡ true) (small : Words 8 key) where
  keys_words : Words 8 ((number c).round_keys key)
  keys_words =
      by_number (λ k. Words 8 (k.round_keys key))
      (words_each 8 _ _ (hierocrypt3-bytes.round_keys_bytes (length key) key (record { long = refl; each = λ j h. word_at_lem 8 key j small })))
      (words_each 8 256 _ (e2-bytes.round_keys_bytes key)) (λ b. small) c (length key) legal

  pub keys_bytes : Bytes 288 (keys c key)
  keys_bytes = each_tab Byte 0 288 (λ n. get_or ((number c).round_keys key) n 0) (λ j h. word_at_lem 8 ((number c).round_keys key) j keys_words)

  pub undo : Inverse (Bytes 16) (worked c 1 key) (worked c 2 key)
  unfolding worked schedule
  undo = block_inverse (schedule c key) (set_up_good c key legal) keys_bytes
