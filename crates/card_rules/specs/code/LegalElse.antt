-- The record that `card::good` is asked of: it has the field in question and is legal else.
use Rattle.std.specs.Prelude.{◌≡◌, Bool, ◌&&◌, List, ℕ}
use Rattle.card_slots.specs.Slot.{legal}
use Rattle.card_fields.specs.declared.Fields.{Fields}
use Rattle.card_fields.specs.Fields.{Laid}
use Rattle.card_rules.specs.declared.Field.{Field}
use Rattle.card_rules.specs.declared.Field.TheVariants.{Recipe, Segment, Target}
use Rattle.card_rules.specs.Rules.{is_kind, may_be}

-- every field may be what it is; a rate and a hold always may
unfoldable pub all_may_be : Fields → Bool
all_may_be f = may_be Recipe f.recipe && may_be Segment f.segment && is_kind f.kind && may_be Target f.target

-- whether a slot that has these fields, and nothing after them, is legal is r
pub record JudgedLaid (f : Fields) (r : Bool) : Type 0 where
  pub slot : List ℕ
  pub laid : Laid f slot
  pub answered : r ≡ legal slot

-- fields of a climb, which all may be what they are exactly if this one may be n
pub record LegalElse (field : Field) (n : ℕ) (f : Fields) : Type 0 where
  pub climb : f.kind ≡ 1
  pub decided : all_may_be f ≡ may_be field n
