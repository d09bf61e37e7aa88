-- The ciphers by number: 01, 'What is built' and 'The two records', and 02, request 2. The one place where a number means a cipher.
use Rattle.std.specs.Prelude.{Bool, true, false, not, List, [], ◌∷◌, ℕ, ◌+◌, ◌*◌, eqb, length, get_or}
use Rattle.laws.specs.Choice.{choose}
use Rattle.laws.specs.Places.{tab}
use Rattle.hierocrypt3_steps.specs.Rounds.{T}
use Rattle.hierocrypt3.specs.Block as hierocrypt3-block
use Rattle.hierocrypt3_keys.specs.Keys as hierocrypt3-keys
use Rattle.e2.specs.Block as e2-block
use Rattle.e2_keys.specs.Keys as e2-keys
use Rattle.noekeon_steps.specs.Rule.{Rule, published, earlier}
use Rattle.noekeon.specs.Noekeon as noekeon-block

pub record Cipher : Type 0 where
  -- the legal key lengths, in bytes
  pub lengths : List ℕ
  -- how many bytes of round keys a key of that length makes
  pub used : ℕ → ℕ
  pub round_keys : List ℕ → List ℕ
  -- one block, by key length and round keys
  pub encipher : ℕ → List ℕ → List ℕ → List ℕ
  pub decipher : ℕ → List ℕ → List ℕ → List ℕ

abbrev pub hierocrypt3 : Cipher
hierocrypt3 = record {
  lengths = 16 ∷ 24 ∷ 32 ∷ [];
  used = λ len. (T len + 1) * 32;
  round_keys = hierocrypt3-keys.round_keys;
  encipher = hierocrypt3-block.encipher;
  decipher = hierocrypt3-block.decipher;
}

abbrev pub e2 : Cipher
e2 = record {
  lengths = 16 ∷ 24 ∷ 32 ∷ [];
  used = λ len. 256;
  round_keys = e2-keys.round_keys;
  encipher = λ len. e2-block.encipher;
  decipher = λ len. e2-block.decipher;
}

-- under either of its rules
abbrev pub noekeon : Rule → Cipher
noekeon r = record {
  lengths = 16 ∷ [];
  used = λ len. 16;
  round_keys = λ key. key;
  encipher = λ len. noekeon-block.encipher r;
  decipher = λ len. noekeon-block.decipher r;
}

-- no cipher has another number: no key length is legal for it
abbrev pub none : Cipher
none = record { lengths = []; used = λ len. 0; round_keys = λ key. []; encipher = λ len keys block. block; decipher = λ len keys block. block }

unfoldable pub number : ℕ → Cipher
number n =
    choose (eqb n 1) hierocrypt3
    (choose (eqb n 2) e2
    (choose (eqb n 3) (noekeon published)
    (choose (eqb n 4) (noekeon earlier) none)))

-- a number is a cipher's if some key length is legal for it
unfoldable pub is_cipher : ℕ → Bool
is_cipher n = not (eqb (length (number n).lengths) 0)

abbrev pub member : ℕ → List ℕ → Bool
member n [] = false
member n (l ∷ ls) = choose (eqb n l) true (member n ls)

-- whether a key of that length is legal for the cipher of that number
unfoldable pub is_length : ℕ → ℕ → Bool
is_length n len = member len (number n).lengths

-- a direction: 1 enciphers, 2 deciphers
unfoldable pub is_direction : ℕ → Bool
is_direction d = choose (eqb d 1) true (eqb d 2)

-- round keys as they lie in a schedule: 288 bytes, these and zeros
abbrev pub padded : List ℕ → List ℕ
padded keys = tab 288 (λ n. get_or keys n 0)
