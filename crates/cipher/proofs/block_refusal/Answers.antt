use mathlib.Core.Path.{◌∙◌}
use Rattle.cipher.specs.Calls.{block_refusal}
use Rattle.cipher.proofs.block_refusal.Goals as goal

pub returns : goal.returns
unfolding block_refusal
returns c = c.first.ensures ∙ rw c.is_bad.ensures
