-- The fields of a slot as one value.
use Rattle.std.specs.Prelude.{◌≡◌, true, List, ◌∷◌, ℕ, ◌/◌, ◌%◌, ltb, length, replicate}
use Rattle.laws.specs.Choice.{choose}
use Rattle.runs.specs.Zeros.{zeros}
use Rattle.card_slots.specs.Slot as slot
use Rattle.card_slots.specs.Card as cards
use Rattle.card_fields.specs.declared.Fields.{Fields}

-- what a slot has in its fields
pub record Has (s : List ℕ) (f : Fields) : Type 0 where
  pub recipe : slot.recipe s ≡ f.recipe
  pub segment : slot.segment s ≡ f.segment
  pub kind : slot.kind s ≡ f.kind
  pub target : slot.target s ≡ f.target
  pub rate : slot.rate s ≡ f.rate
  pub hold : slot.hold_minutes s ≡ f.hold

-- a slot that has these, and nothing behind them
pub record Laid (f : Fields) (s : List ℕ) : Type 0 where
  pub sixteen : length s ≡ 16
  pub has : Has s f
  pub nothing_behind : zeros (slot.rest s) ≡ true

-- its bytes
abbrev pub slot_of : Fields → List ℕ
slot_of f =
    f.recipe / 256 ∷ f.recipe % 256 ∷ f.segment ∷ f.kind ∷ f.target / 256 ∷ f.target % 256 ∷ f.rate / 256 ∷ f.rate % 256
    ∷ f.hold / 256 ∷ f.hold % 256 ∷ replicate 6 0

-- ---- a slot of a card, or zeros where the card has no such slot
unfoldable pub slot_at : List ℕ → ℕ → List ℕ
slot_at card i = choose (ltb i (length card / 16)) (cards.slot card i) (replicate 16 0)
