use mathlib.Core.Path.{◌∙◌}
use Rattle.stream.specs.Calls.{finish_refusal}
use Rattle.stream.proofs.state.finish_refusal.Goals as goal

pub returns : goal.returns
unfolding finish_refusal
returns c = c.first.ensures ∙ rw c.is_bad.ensures
