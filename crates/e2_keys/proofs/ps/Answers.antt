-- `ps`: P after S.
use mathlib.Core.Path.{ap, ◌∙◌}
use Rattle.e2_steps.specs.Steps.{P}
use Rattle.e2_keys.proofs.ps.Goals as goal

pub returns : goal.returns
returns c = c.p.ensures ∙ ap P c.s.ensures
