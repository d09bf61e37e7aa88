-- What the text of a key's or a first block's file is taken for: the bytes that it spells, and nothing where it spells none.
use Rattle.std.specs.Prelude.{◌≡◌, Option, None, Some, IfSome, Result, Ok, Err, List, ℕ, length}
use Rattle.io.specs.Counts.{IsPrefixLen}
use Rattle.hex_digits.specs.Read.{reading, written}
use Rattle.hex_digits.specs.declared.Misspelled.{Misspelled}

abbrev pub laid : Result ℕ Misspelled → Option ℕ
laid (Ok n) = Some n
laid (Err why) = None

pub record Spelled (text before : List ℕ) (r : Option ℕ) (after : List ℕ) : Type 0 where
  pub counts : IfSome r (λ n. IsPrefixLen n after)
  pub answers : r ≡ laid (reading text (length before))
  pub writes : after ≡ written (reading text (length before)) text before
