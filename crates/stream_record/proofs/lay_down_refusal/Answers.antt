use mathlib.Core.Path.{◌∙◌}
use Rattle.stream_record.specs.Calls.{lay_down_refusal}
use Rattle.stream_record.proofs.lay_down_refusal.Goals as goal

pub returns : goal.returns
unfolding lay_down_refusal
returns c = c.first.ensures ∙ rw c.is_bad.ensures
