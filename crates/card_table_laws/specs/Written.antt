-- A card's slots as a table has them.
use Rattle.std.specs.Prelude.{◌≡◌, true, List, [], ◌∷◌, ◌++◌, ℕ, eqb}
use Rattle.laws.specs.Bytes.{Bytes}
use Rattle.laws.specs.Choice.{choose}
use Rattle.card_slots.specs.Slot as slot
use Rattle.card_fields.specs.declared.Fields.{Fields}
use Rattle.card_table.specs.Table.{Read, with_record}

-- the fields of a slot
abbrev pub fields_of : List ℕ → Fields
fields_of s = record {
  recipe = slot.recipe s;
  segment = slot.segment s;
  kind = slot.kind s;
  target = slot.target s;
  rate = slot.rate s;
  hold = slot.hold_minutes s;
}

-- a slot of 16 bytes that keeps the rules
pub record Kept (s : List ℕ) : Type 0 where
  pub bytes : Bytes 16 s
  pub rules : slot.keeps_rules s ≡ true

-- the slots with a kind, in their order
abbrev pub with_kind : List (List ℕ) → List (List ℕ)
with_kind [] = []
with_kind (s ∷ ss) = choose (eqb (slot.kind s) 0) (with_kind ss) (s ∷ with_kind ss)

-- lines, each followed by a line feed
abbrev pub fed : List (List ℕ) → List ℕ
fed [] = []
fed (l ∷ ls) = l ++ 10 ∷ fed ls

-- the records of slots put, one after the other
abbrev pub with_slots : Read → List (List ℕ) → Read
with_slots r [] = r
with_slots r (s ∷ ss) = with_slots (with_record r (fields_of s)) ss
