use mathlib.Core.Path.{◌∙◌}
use Rattle.seal.specs.Calls.{write_refusal}
use Rattle.seal.proofs.state.write_refusal.Goals as goal

pub returns : goal.returns
unfolding write_refusal
returns c = c.first.ensures ∙ rw c.is_bad.ensures
