-- `g_y`: each sub-block of Y.
use mathlib.Core.List.{[], ◌∷◌}
use Rattle.e2_keys.specs.Keys.{Y}
use Rattle.e2_keys.proofs.g_y.Goals as goal

pub returns : goal.returns
unfolding Y
returns c = λ i. c.ps.ensures i ∷ c.ps-2.ensures i ∷ c.ps-3.ensures i ∷ c.ps-4.ensures i ∷ []
