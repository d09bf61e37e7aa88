-- What a caller may conclude from an answer of `read`: the bytes have room, the bad character is in the text.
use mathlib.Core.Path.{◌≡◌, refl, sym, subst}
use mathlib.Core.Bool.{Bool, true, false}
use mathlib.Core.List.{List}
use Prim.Native.Nat.{ℕ, ◌/◌, ◌%◌, ◌≤◌, ◌<◌}
use lib.Dec.{eqb, ltb}
use lib.ListN.{length}
use Rattle.std.specs.Prelude.{Result, Ok, Err}
use borrow.Author.Tests.{eqb-true, ltb-true, ltb-false}
use Rattle.laws.specs.Choice.{choose}
use Rattle.hex_text.specs.Hex.{first_bad, digits}
use Rattle.hex_digits.specs.Read.{counted, reading}
use Rattle.hex_digits.specs.declared.Misspelled.{Misspelled}
use Rattle.hex_digits.specs.declared.Misspelled.TheVariants.{BadCharacter, OddDigits, NoRoom}

abbrev pub Known : List ℕ → ℕ → Result ℕ Misspelled → Type 0
Known text room (Ok n) = n ≤ room
Known text room (Err (BadCharacter place)) = place < length text
Known text room (Err (OddDigits n)) = n % 2 ≡ 1
Known text room (Err (NoRoom n)) = room < n

module _ (text : List ℕ) (room n : ℕ) where
  of_counted : (odd full : Bool) → eqb (n % 2) 1 ≡ odd → ltb room (n / 2) ≡ full
      → Known text room (choose odd (Err (OddDigits n)) (choose full (Err (NoRoom (n / 2))) (Ok (n / 2))))
  of_counted true full e f = eqb-true (n % 2) 1 e
  of_counted false true e f = ltb-true room (n / 2) f
  of_counted false false e f = ltb-false room (n / 2) f

of_reading : (text : List ℕ) (room : ℕ) (bad : Bool) → ltb (first_bad text) (length text) ≡ bad
    → Known text room (choose bad (Err (BadCharacter (first_bad text))) (counted (length (digits text)) room))
of_reading text room true e = ltb-true (first_bad text) (length text) e
of_reading text room false e = of_counted text room (length (digits text)) _ _ refl refl

pub known : (text : List ℕ) (room : ℕ) (r : Result ℕ Misspelled) → r ≡ reading text room → Known text room r
unfolding reading
known text room r e = subst (Known text room) (sym e) (of_reading text room (ltb (first_bad text) (length text)) refl)
