-- What the C entry answers and writes, on any input, and what it promises: 01, 'Refusal numbers', and 02, request 7; and the version that archive and header carry.
use Rattle.std.specs.Prelude.{◌≡◌, not, List, ◌++◌, ℕ, eqb, ltb, length, drop}
use Rattle.laws.specs.Choice.{choose}
use Rattle.refusals.specs.Refusals.{done, entry_order}
use Rattle.cipher_numbers.specs.Ciphers.{is_cipher, is_length, is_direction}
use Rattle.cipher_numbers.specs.Blank.{blank}
use Rattle.cipher.specs.Schedule.{in_direction}
use Rattle.cipher.specs.Calls.{schedule}

-- by the cipher's number, the direction, the key, and the lengths of block and output
unfoldable pub entry_refusal : ℕ → ℕ → List ℕ → (block room : ℕ) → ℕ
entry_refusal c d key n room =
    entry_order (not (is_cipher c)) (not (is_length c (length key))) (blank key) (not (is_direction d)) (not (eqb n 16)) (ltb room 16)

-- the block under the key's schedule, in a direction
unfoldable pub worked : ℕ → ℕ → List ℕ → List ℕ → List ℕ
worked c d key x = in_direction d (schedule c key) x

-- 16 bytes at the front of the output, the rest as it was
unfoldable pub entry_out : ℕ → ℕ → List ℕ → List ℕ → List ℕ → List ℕ
entry_out c d key x o = choose (eqb (entry_refusal c d key (length x) (length o)) done) (worked c d key x ++ drop 16 o) o

-- ---- the promise: a call answers r and leaves o' of the output o
pub record WorksForC (cipher direction : ℕ) (key block o : List ℕ) (r : ℕ) (o' : List ℕ) : Type 0 where
  pub answered : r ≡ entry_refusal cipher direction key (length block) (length o)
  pub left : o' ≡ entry_out cipher direction key block o

-- ---- the version: another number for another meaning of the call or its answers
abbrev pub version : ℕ
version = 3

pub record TellsVersion (r : ℕ) : Type 0 where
  pub returned : r ≡ version
