-- What set-up and one block answer, return and write, on any input: 01, 'Refusal numbers', and 02, request 7.
use Rattle.std.specs.Prelude.{◌≡◌, true, false, not, List, ◌++◌, ℕ, eqb, ltb, length, drop}
use Rattle.laws.specs.Choice.{choose}
use Rattle.refusals.specs.Refusals.{done, set_up_order, block_order}
use Rattle.cipher_numbers.specs.Ciphers.{number, is_cipher, is_length, padded}
use Rattle.cipher_numbers.specs.Blank.{blank}
use Rattle.cipher.specs.Schedule.{schedule_of, bad, zero_schedule}
use Rattle.cipher.specs.declared.Schedule.{Schedule}
use Rattle.cipher.specs.Numbered.{SetUp}

-- ---- set-up
unfoldable pub set_up_refusal : ℕ → List ℕ → ℕ
set_up_refusal n key = set_up_order (not (is_cipher n)) (not (is_length n (length key))) (blank key)

-- a key that set-up takes: legal for the cipher of that number, and not blank
pub record Usable (n : ℕ) (key : List ℕ) : Type 0 where
  pub legal : is_length n (length key) ≡ true
  pub not_blank : blank key ≡ false

-- the schedule of a legal key, blank or not
unfoldable pub schedule : ℕ → List ℕ → Schedule
schedule n key = schedule_of (padded ((number n).round_keys key)) n (length key)

abbrev pub set_up_as : (answer : ℕ) → Schedule → SetUp
set_up_as n s = record { answer = n; schedule = s }

unfoldable pub set_up : ℕ → List ℕ → SetUp
set_up n key =
    choose (eqb (set_up_refusal n key) done)
    (set_up_as done (schedule n key))
    (set_up_as (set_up_refusal n key) zero_schedule)

-- ---- one block, worked by a function f of schedule and block: 16 bytes at the front of the output, the rest as it was
unfoldable pub block_refusal : Schedule → (block room : ℕ) → ℕ
block_refusal s n room = block_order (bad s) (not (eqb n 16)) (ltb room 16)

unfoldable pub block_out : (Schedule → List ℕ → List ℕ) → Schedule → List ℕ → List ℕ → List ℕ
block_out f s x o = choose (eqb (block_refusal s (length x) (length o)) done) (f s x ++ drop 16 o) o
