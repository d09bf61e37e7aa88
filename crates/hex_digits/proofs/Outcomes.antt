-- The promise of `read` at each of its four answers, from what the code has found.
use mathlib.Core.Path.{◌≡◌, sym, ap}
use mathlib.Core.List.{List, ◌++◌}
use Prim.Native.Nat.{ℕ, ◌/◌, ◌%◌, ◌≤◌, ◌<◌}
use lib.ListN.{length, drop}
use Rattle.std.specs.Prelude.{Result, Ok, Err}
use borrow.Author.Tests.{lt-ltb, le-ltb, eq-eqb, ne_eqb}
use Rattle.hex_text.specs.Hex.{first_bad, digits, joined}
use Rattle.hex_digits.specs.Read.{reading, written, Read}
use Rattle.hex_digits.specs.declared.Misspelled.{Misspelled}
use Rattle.hex_digits.specs.declared.Misspelled.TheVariants.{BadCharacter, OddDigits, NoRoom}

module _ {text before : List ℕ} where
  answered : (r : Result ℕ Misspelled) → reading text (length before) ≡ r → Read text before r (written r text before)
  answered r e = record { answers = sym e; writes = ap (λ (x : Result ℕ Misspelled). written x text before) (sym e) }

  pub bad_character : (p : ℕ) → p ≡ first_bad text → p < length text → Read text before (Err (BadCharacter p)) before
  unfolding reading
  bad_character p e h = answered (Err (BadCharacter p)) (simp (sym e, lt-ltb _ _ h))

  module _ (n : ℕ) (good : length text ≤ first_bad text) (count : n ≡ length (digits text)) where
    pub odd_digits : n % 2 ≡ 1 → Read text before (Err (OddDigits n)) before
    unfolding reading
    odd_digits odd = answered (Err (OddDigits n)) (simp (le-ltb _ _ good, sym count, eq-eqb _ _ odd))

    pub no_room_lem : (n % 2 ≡ 1 → ⊥) → length before < n / 2 → Read text before (Err (NoRoom (n / 2))) before
    unfolding reading
    no_room_lem even h = answered (Err (NoRoom (n / 2))) (simp (le-ltb _ _ good, sym count, ne_eqb _ _ even, lt-ltb _ _ h))

    pub bytes : (n % 2 ≡ 1 → ⊥) → n / 2 ≤ length before → Read text before (Ok (n / 2)) (joined (digits text) ++ drop (n / 2) before)
    unfolding reading
    bytes even h = answered (Ok (n / 2)) (simp (le-ltb _ _ good, sym count, ne_eqb _ _ even, le-ltb _ _ h))
