-- The key schedule: 01, 'The two records'.
use Rattle.std.specs.Prelude.{Bool, true, not, List, ℕ, eqb, drop}
use Rattle.laws.specs.Choice.{choose}
use Rattle.laws.specs.Places.{tab}
use Rattle.runs.specs.Zeros.{zeros}
use Rattle.cipher_numbers.specs.Ciphers.{number, is_cipher, is_length}
use Rattle.cipher.specs.declared.Schedule.{Schedule}

-- a schedule of these parts
abbrev pub schedule_of : List ℕ → (cipher length : ℕ) → Schedule
schedule_of keys n len = record { round_keys = keys; cipher = n; key_length = len }

-- the number or the length is illegal, or a byte behind the used ones isn't zero
unfoldable pub bad : Schedule → Bool
bad s =
    choose (not (is_cipher s.cipher)) true
    (choose (not (is_length s.cipher s.key_length)) true
    (not (zeros (drop ((number s.cipher).used s.key_length) s.round_keys))))

-- what a refused set-up returns
abbrev pub zero_schedule : Schedule
zero_schedule = schedule_of (tab 288 (λ n. 0)) 0 0

-- one block under a schedule
unfoldable pub enciphered : Schedule → List ℕ → List ℕ
enciphered s x = (number s.cipher).encipher s.key_length s.round_keys x

unfoldable pub deciphered : Schedule → List ℕ → List ℕ
deciphered s x = (number s.cipher).decipher s.key_length s.round_keys x

-- in a direction: 1 enciphers, any other deciphers
abbrev pub in_direction : ℕ → Schedule → List ℕ → List ℕ
in_direction d s x = choose (eqb d 1) (enciphered s x) (deciphered s x)
