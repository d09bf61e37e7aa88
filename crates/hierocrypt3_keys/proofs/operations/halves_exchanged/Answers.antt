use mathlib.Core.Path.{◌∙◌}
use mathlib.Core.List.{◌++◌}
use Rattle.hierocrypt3_keys.proofs.operations.halves_exchanged.Goals as goal

pub returns : goal.returns
returns c = c.joined.ensures ∙ (λ i. c.part.ensures.placed i ++ c.part-2.ensures.placed i)
