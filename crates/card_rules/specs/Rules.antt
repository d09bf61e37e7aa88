-- Which number a field of a record may hold, field by field (02, request 1).
use Rattle.std.specs.Prelude.{Bool, true, false, ℕ, eqb, leb}
use Rattle.laws.specs.Choice.{choose}
use Rattle.laws.specs.Range.{within}
use Rattle.card_rules.specs.declared.Field.{Field}
use Rattle.card_rules.specs.declared.Field.TheVariants.{Recipe, Segment, Target, Rate, Hold}

-- 1 climb, 2 hold, 3 drop
abbrev pub is_kind : ℕ → Bool
is_kind k = within 1 3 k

-- by its number: recipe 0, segment 1, target 2, rate 3, any other is the hold
abbrev pub field_of : ℕ → Field
field_of n = choose (eqb n 0) Recipe (choose (eqb n 1) Segment (choose (eqb n 2) Target (choose (eqb n 3) Rate Hold)))

-- a rate and a hold are any number of two bytes
unfoldable pub may_be : Field → ℕ → Bool
may_be Recipe n = within 1 65535 n
may_be Segment n = within 1 32 n
may_be Target n = leb n 13500
may_be Rate n = leb n 65535
may_be Hold n = leb n 65535

-- the target and the rate
abbrev pub in_tenths : Field → Bool
in_tenths Recipe = false
in_tenths Segment = false
in_tenths Target = true
in_tenths Rate = true
in_tenths Hold = false
