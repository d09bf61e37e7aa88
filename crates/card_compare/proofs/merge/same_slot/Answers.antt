use mathlib.Core.Path.{ap, ap₂, ◌∙◌}
use mathlib.Core.List.{List}
use Prim.Native.Nat.{ℕ, ◌%◌}
use Rattle.laws.specs.Bytes.{xor_l}
use Rattle.runs.specs.Zeros.{zeros}
use Rattle.runs.proofs.Same.{same_by_xor}
use Rattle.card_slots.specs.Card.{slot}
use Rattle.card_slots.proofs.Slots.{slot-length}
use Rattle.card_compare.proofs.merge.same_slot.Goals as goal

pub returns : goal.returns
returns c =
    let one = slot c.args.first.now (c.args.k % 256) in
    let two = slot c.args.second.now (c.args.l % 256) in
    c.zero_from.ensures
    ∙ ap zeros (c.xor-differences.ensures ∙ ap₂ (λ (a b : List ℕ). xor_l 16 a b) c.part-one.ensures.taken c.part-two.ensures.taken)
    ∙ same_by_xor 16 one two (slot-length c.args.first.now (c.args.k % 256) c.requires.0) (slot-length c.args.second.now (c.args.l % 256) c.requires.1)
