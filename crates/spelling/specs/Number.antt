-- A number in digits, as a person writes it (docs/BENCH.md, 'Numbers'). Characters are ASCII numbers.
use Rattle.std.specs.Prelude.{Option, Some, None, Bool, true, ◌&&◌, List, [], ◌∷◌, ℕ, ◌+◌, ◌*◌, ◌-◌, eqb, length, get_or, take}
use Rattle.laws.specs.Choice.{choose}
use Rattle.laws.specs.Range.{within}

-- 0 to 9
unfoldable pub digit : ℕ → Bool
digit c = within 48 57 c

-- every character is a digit
abbrev pub digits : List ℕ → Bool
digits [] = true
digits (c ∷ text) = digit c && digits text

-- the number that digits spell behind the digits of n
abbrev pub behind : ℕ → List ℕ → ℕ
behind n [] = n
behind n (c ∷ text) = behind (n * 10 + (c - 48)) text

abbrev pub value : List ℕ → ℕ
value text = behind 0 text

-- 1 to 9 digits
unfoldable pub number : List ℕ → Bool
number text = within 1 9 (length text) && digits text

-- what stands before the last two characters, and those two
abbrev pub front : List ℕ → List ℕ
front text = take (length text - 2) text

abbrev pub last_but_one : List ℕ → ℕ
last_but_one text = get_or text (length text - 2) 0

abbrev pub last : List ℕ → ℕ
last text = get_or text (length text - 1) 0

-- 1 to 9 digits, a point and one more digit
unfoldable pub pointed : List ℕ → Bool
pointed text = number (front text) && eqb (last_but_one text) 46 && digit (last text)

-- ---- the answers
unfoldable pub whole : List ℕ → Option ℕ
whole text = choose (number text) (Some (value text)) None

-- in tenths
unfoldable pub tenths : List ℕ → Option ℕ
tenths text =
    choose (number text) (Some (value text * 10))
    (choose (pointed text) (Some (value (front text) * 10 + (last text - 48))) None)
