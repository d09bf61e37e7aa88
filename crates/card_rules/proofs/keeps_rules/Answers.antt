use mathlib.Core.Path.{◌∙◌}
use Rattle.card_rules.proofs.OneSlot.{one_slot_good}
use Rattle.card_rules.proofs.keeps_rules.Goals as goal

pub returns : goal.returns
returns c =
    let laid = c.laid-record.ensures.laid in
    record { slot = c.laid-record.result; laid = laid; answered = c.good.ensures.answered ∙ one_slot_good _ laid.sixteen }
