use Rattle.card_slots.specs.Slot.{keeps_rules}
use Rattle.card_slots.proofs.slot.Slot.keeps_rules.Goals as goal

pub returns : goal.returns
unfolding keeps_rules
returns c =
    simp (c.is_within.ensures, c.is_within-2.ensures, c.is_within-3.ensures, c.into.ensures, c.into-2.ensures, c.recipe.ensures, c.segment.ensures, c.kind.ensures, c.target.ensures, c.zero_from.ensures)
