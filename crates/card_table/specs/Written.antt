-- A card written as a table (docs/BENCH.md, 'The table'). Characters are ASCII numbers: comma 44, line feed 10.
use Rattle.std.specs.Prelude.{List, [], ◌∷◌, ◌++◌, ℕ, eqb}
use Rattle.laws.specs.Choice.{choose}
use Rattle.card_slots.specs.Slot.{recipe, segment, kind, target, rate, hold_minutes}
use Rattle.card_slots.specs.Card.{slots}
use Rattle.card_fields.specs.Kinds.{kind_text}
use Rattle.wording.specs.Numbers.{decimal, in_tenths}
use Rattle.card_table.specs.Table.{header}

-- ---- lines
unfoldable pub line_of : List ℕ → List ℕ
line_of s =
    decimal (recipe s) ++ 44 ∷ decimal (segment s) ++ 44 ∷ kind_text (kind s) ++ 44 ∷ in_tenths (target s) ++ 44 ∷ in_tenths (rate s)
    ++ 44 ∷ decimal (hold_minutes s)

-- an empty slot of a good card is one without a kind
abbrev pub lines_of : List (List ℕ) → List ℕ
lines_of [] = []
lines_of (s ∷ ss) = choose (eqb (kind s) 0) (lines_of ss) (line_of s ++ 10 ∷ lines_of ss)

-- ---- the table
unfoldable pub table_of : List ℕ → List ℕ
table_of card = header ++ 10 ∷ lines_of (slots card)
