use mathlib.Core.Path.{◌∙◌}
use Rattle.seal.specs.Calls.{start_refusal}
use Rattle.seal.proofs.state.start_refusal.Goals as goal

pub returns : goal.returns
unfolding start_refusal
returns c = c.first.ensures ∙ rw c.is_bad.ensures
