-- A slot of a recipe card: its fields by name, and the rules of one slot (02, request 1). Numbers of two bytes are big-endian.
use Rattle.std.specs.Prelude.{Bool, true, not, ◌&&◌, List, ℕ, ◌+◌, ◌*◌, eqb, leb, length, get_or, drop}
use Rattle.laws.specs.Choice.{choose}
use Rattle.laws.specs.Range.{within}
use Rattle.runs.specs.Zeros.{zeros}

-- ---- the fields
-- the number of the two bytes at a place
abbrev pub number : List ℕ → ℕ → ℕ
number s at = get_or s at 0 * 256 + get_or s (at + 1) 0

abbrev pub recipe : List ℕ → ℕ
recipe s = number s 0

abbrev pub segment : List ℕ → ℕ
segment s = get_or s 2 0

-- 1 climb, 2 hold, 3 drop
abbrev pub kind : List ℕ → ℕ
kind s = get_or s 3 0

-- in tenths of a degree
abbrev pub target : List ℕ → ℕ
target s = number s 4

-- in tenths of a degree per hour
abbrev pub rate : List ℕ → ℕ
rate s = number s 6

abbrev pub hold_minutes : List ℕ → ℕ
hold_minutes s = number s 8

-- bytes 10 to 15
abbrev pub rest : List ℕ → List ℕ
rest s = drop 10 s

-- recipe and segment
abbrev pub pair_of : List ℕ → ℕ × ℕ
pair_of s = (recipe s, segment s)

-- ---- the rules
unfoldable pub empty : List ℕ → Bool
empty s = zeros s

-- the rules of a slot that isn't empty. Any rate and any hold of two bytes keeps them, whatever the kind
unfoldable pub keeps_rules : List ℕ → Bool
keeps_rules s =
    within 1 65535 (recipe s) && within 1 32 (segment s) && within 1 3 (kind s) && leb (target s) 13500 && zeros (rest s)

-- a slot as a card may have it
abbrev pub legal : List ℕ → Bool
legal s = choose (empty s) true (keeps_rules s)

abbrev pub illegal : List ℕ → Bool
illegal s = not (legal s)

-- a record that may be put
unfoldable pub good_record : List ℕ → Bool
good_record r = eqb (length r) 16 && legal r && not (empty r)
