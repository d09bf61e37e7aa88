use mathlib.Core.Path.{◌∙◌}
use Rattle.seal.specs.Calls.{check_refusal}
use Rattle.seal.proofs.state.check_refusal.Goals as goal

pub returns : goal.returns
unfolding check_refusal
returns c = c.first.ensures ∙ rw c.is_bad.ensures
