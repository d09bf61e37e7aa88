use mathlib.Core.Path.{ap, ◌∙◌}
use mathlib.Core.List.{◌++◌}
use Rattle.laws.specs.Bytes.{xor_l}
use Rattle.hierocrypt3_keys.specs.Operations.{MB3, Fσ}
use Rattle.hierocrypt3_keys.specs.Keys.{ciphertext_side}
use Rattle.hierocrypt3_keys.proofs.ciphertext_side.Goals as goal

pub returns : goal.returns
unfolding ciphertext_side
returns c = let args = c.args in
    let v = c.f_sigma-v.ensures ∙ ap Fσ c.xor.ensures in
    let w1 = c.mb3-w1.ensures ∙ ap MB3 c.xor-2.ensures in
    let w2 = c.mb3-w2.ensures in
    let k2 = c.xor-k2.ensures ∙ (λ i. xor_l 8 (w1 i) (v i)) in
    let k3 = c.xor-k3.ensures ∙ (λ i. xor_l 8 (w2 i) (v i)) in
    let k4 = c.xor-k4.ensures ∙ ap (xor_l 8 args.before.z1) w2 in
    λ i. c.xor-k1.ensures i ++ k2 i ++ k3 i ++ k4 i
