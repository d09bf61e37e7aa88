-- What the text of a field is taken for (docs/BENCH.md, 'The table'). Characters are ASCII numbers.
use Rattle.std.specs.Prelude.{Option, Some, None, List, ℕ, ◌%◌}
use Rattle.std.specs.Option.{option_and_then}
use Rattle.laws.specs.Choice.{choose}
use Rattle.spelling.specs.Number.{whole, tenths}
use Rattle.spelling.specs.Word.{spells}
use Rattle.card_fields.specs.Kinds.{climb, hold, drop}
use Rattle.card_fields.specs.declared.Fields.{Fields}
use Rattle.card_rules.specs.Rules.{may_be, in_tenths}
use Rattle.card_rules.specs.declared.Field.{Field}

-- ---- a number: the field may hold what its text spells
unfoldable pub spelled_in : Field → List ℕ → Option ℕ
spelled_in field text = choose (in_tenths field) (tenths text) (whole text)

unfoldable pub number_in : Field → List ℕ → Option ℕ
number_in field text = option_and_then (λ n. choose (may_be field n) (Some n) None) (spelled_in field text)

-- ---- a kind, in capital or small letters
unfoldable pub kind_of : List ℕ → Option ℕ
kind_of text =
    choose (spells text climb) (Some 1)
    (choose (spells text hold) (Some 2)
    (choose (spells text drop) (Some 3) None))

-- ---- the record, if every field is right. A segment and a kind that are right fit a byte
unfoldable pub record_of : (recipe segment kind target rate hold_minutes : Option ℕ) → Option Fields
record_of (Some recipe) (Some segment) (Some kind) (Some target) (Some rate) (Some hold_minutes) =
    Some (record { recipe = recipe; segment = segment % 256; kind = kind % 256; target = target; rate = rate; hold = hold_minutes })
record_of _ _ _ _ _ _ = None
