use mathlib.Core.Path.{◌∙◌}
use Rattle.stream.specs.Calls.{piece_refusal}
use Rattle.stream.proofs.state.piece_refusal.Goals as goal

pub returns : goal.returns
unfolding piece_refusal
returns c = c.first.ensures ∙ rw (c.is_bad.ensures, c.over_limit-over.ensures, c.short_of_room-short.ensures)
