-- What reading a text gives: the call's answer, and its output afterwards.
use Rattle.std.specs.Prelude.{◌≡◌, List, ◌++◌, ℕ, ◌/◌, ◌%◌, eqb, ltb, length, drop, Result, Ok, Err}
use Rattle.laws.specs.Choice.{choose}
use Rattle.hex_text.specs.Hex.{first_bad, digits, joined}
use Rattle.hex_digits.specs.declared.Misspelled.{Misspelled}
use Rattle.hex_digits.specs.declared.Misspelled.TheVariants.{BadCharacter, OddDigits, NoRoom}

-- a text of n digits and no bad character, with room for so many bytes
abbrev pub counted : ℕ → ℕ → Result ℕ Misspelled
counted n room = choose (eqb (n % 2) 1) (Err (OddDigits n)) (choose (ltb room (n / 2)) (Err (NoRoom (n / 2))) (Ok (n / 2)))

-- the first cause applies: a bad character, by its place; an odd number of digits; no room for the bytes
unfoldable pub reading : List ℕ → ℕ → Result ℕ Misspelled
reading text room = choose (ltb (first_bad text) (length text)) (Err (BadCharacter (first_bad text))) (counted (length (digits text)) room)

-- the output afterwards: the bytes, and behind them what was there; where a text is refused, what was there
abbrev pub written : Result ℕ Misspelled → List ℕ → List ℕ → List ℕ
written (Ok n) text before = joined (digits text) ++ drop n before
written (Err why) text before = before

-- the promise of `read`
pub record Read (text before : List ℕ) (answer : Result ℕ Misspelled) (after : List ℕ) : Type 0 where
  pub answers : answer ≡ reading text (length before)
  pub writes : after ≡ written (reading text (length before)) text before
