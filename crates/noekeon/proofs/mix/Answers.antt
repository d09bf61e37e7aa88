-- `mix`: the three steps one after the other.
use mathlib.Core.Path.{ap, ◌∙◌}
use Rattle.noekeon_steps.specs.Steps.{γ, π2}
use Rattle.noekeon.proofs.mix.Goals as goal

pub returns : goal.returns
returns c = c.pi2.ensures ∙ ap π2 (c.gamma.ensures ∙ ap γ c.pi1.ensures)
