use mathlib.Core.Path.{ap, ◌∙◌}
use mathlib.Core.List.{◌++◌}
use Rattle.laws.specs.Places.{part}
use Rattle.laws.specs.Bytes.{xor_l}
use Rattle.hierocrypt3_keys.specs.Operations.{P⁻, MB3, Fσ}
use Rattle.hierocrypt3_keys.specs.Keys.{σ⁻}
use Rattle.hierocrypt3_keys.proofs.sigma_inverse.Goals as goal

pub returns : goal.returns
unfolding σ⁻
returns c = let args = c.args in
    let w1 = c.mb3-w1.ensures ∙ ap MB3 c.xor.ensures in
    let w2 = c.mb3-w2.ensures in
    let v = c.f_sigma.ensures ∙ ap Fσ c.xor-2.ensures in
    let y1 = c.xor-y1.ensures ∙ ap (xor_l 8 args.z.z2) v in
    let y3 = c.p32_inverse_first-y3.ensures ∙ (λ i. part 0 0 8 (P⁻ 4 (w1 i ++ w2 i))) in
    let y4 = c.p32_inverse_second-y4.ensures ∙ (λ i. part 0 8 8 (P⁻ 4 (w1 i ++ w2 i))) in
    λ i. record { z1 = y1 i; z2 = args.z.z1; z3 = y3 i; z4 = y4 i }
