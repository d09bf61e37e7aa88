use mathlib.Core.Path.{◌∙◌}
use Rattle.seal.specs.Calls.{piece_refusal}
use Rattle.seal.proofs.state.piece_refusal.Goals as goal

pub returns : goal.returns
unfolding piece_refusal
returns c = c.first.ensures ∙ rw (c.is_bad.ensures, c.over_limit-over.ensures)
