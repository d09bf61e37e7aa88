use mathlib.Core.Path.{ap, ◌∙◌}
use mathlib.Core.List.{◌++◌}
use Rattle.laws.specs.Bytes.{xor_l}
use Rattle.hierocrypt3_keys.specs.Operations.{Fσ}
use Rattle.hierocrypt3_keys.specs.Keys.{plaintext_side}
use Rattle.hierocrypt3_keys.proofs.plaintext_side.Goals as goal

pub returns : goal.returns
unfolding plaintext_side
returns c = let args = c.args in
    let v = c.f_sigma-v.ensures ∙ ap Fσ c.xor.ensures in
    let k1 = c.xor-k1.ensures ∙ ap (xor_l 8 args.before.z1) v in
    let k2 = c.xor-k2.ensures ∙ ap (xor_l 8 args.z.z3) v in
    let k3 = c.xor-k3.ensures ∙ ap (xor_l 8 args.z.z4) v in
    λ i. k1 i ++ k2 i ++ k3 i ++ c.xor-k4.ensures i
