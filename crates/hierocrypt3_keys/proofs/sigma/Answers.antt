use mathlib.Core.Path.{◌∙◌}
use Rattle.hierocrypt3_keys.specs.Keys.{σ0, σ}
use Rattle.hierocrypt3_keys.proofs.sigma.Goals as goal

pub returns : goal.returns
unfolding σ
returns c = let args = c.args in
    c.pre_whitening.ensures
    ∙ (λ i. σ0 args.g (record { z1 = args.z.z1; z2 = args.z.z2; z3 = c.p32_first-w1.ensures i; z4 = c.p32_second-w2.ensures i }))
