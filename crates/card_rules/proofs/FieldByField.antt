-- A slot keeps the rules exactly if every field may be what it is and nothing stands after them. So of a slot that breaks
-- them `card show` names at least one rule (docs/BENCH.md).
use mathlib.Core.Path.{◌≡◌, refl}
use mathlib.Core.Bool.{Bool, true, false, ◌&&◌}
use lib.Dec.{eqb, leb}
use Rattle.laws.specs.Choice.{choose}
use Rattle.laws.specs.Range.{within}
use mathlib.Core.List.{List}
use Prim.Native.Nat.{ℕ}
use native.Mathlib.Omega.{arith}
use borrow.Author.Tests.{le-leb}
use Rattle.laws.specs.Bytes.{Bytes}
use Rattle.runs.specs.Zeros.{zeros}
use Rattle.card_slots.specs.Slot.{recipe, segment, kind, target, rate, hold_minutes, rest, keeps_rules}
use Rattle.card_rules.specs.declared.Field.TheVariants.{Recipe, Segment, Target, Rate, Hold}
use Rattle.card_rules.specs.Rules.{field_of, is_kind, may_be}

pub kept_field_by_field : (s : List ℕ)
    → keeps_rules s ≡ (may_be Recipe (recipe s) && may_be Segment (segment s) && is_kind (kind s) && may_be Target (target s) && zeros (rest s))
unfolding keeps_rules may_be
kept_field_by_field s = refl

-- the two that are not asked for always may be what they are
pub any_rate_and_hold : (s : List ℕ) → Bytes 16 s → (may_be Rate (rate s) ≡ true) × (may_be Hold (hold_minutes s) ≡ true)
unfolding may_be
any_rate_and_hold s b = (
  le-leb (rate s) 65535 (omega (arith, b.each 6 (omega arith), b.each 7 (omega arith))),
  le-leb (hold_minutes s) 65535 (omega (arith, b.each 8 (omega arith), b.each 9 (omega arith))),
)

-- by the fields' numbers
pub may_be-field_of : (field n : ℕ) → may_be (field_of field) n
    ≡ choose (eqb field 0) (within 1 65535 n) (choose (eqb field 1) (within 1 32 n) (choose (eqb field 2) (leb n 13500) (leb n 65535)))
unfolding may_be
may_be-field_of field n = go (eqb field 0) (eqb field 1) (eqb field 2) (eqb field 3)
  where
    go : (a b c d : Bool) → may_be (choose a Recipe (choose b Segment (choose c Target (choose d Rate Hold)))) n
        ≡ choose a (within 1 65535 n) (choose b (within 1 32 n) (choose c (leb n 13500) (leb n 65535)))
    go true b c d = refl
    go false true c d = refl
    go false false true d = refl
    go false false false true = refl
    go false false false false = refl
