use mathlib.Core.Path.{ap, ◌∙◌}
use mathlib.Core.List.{◌++◌}
use Rattle.laws.specs.Bytes.{xor_l}
use Rattle.hierocrypt3_keys.specs.code.Exchanged.{exchanged}
use Rattle.hierocrypt3_keys.proofs.PFunction.{p16_halves}
use Rattle.hierocrypt3_keys.proofs.operations.p16.Goals as goal

pub returns : goal.returns
returns c = let x34 = c.part-x34.ensures.placed in
    let y12 = c.xor-y12.ensures ∙ (λ i. xor_l 4 (c.part.ensures.placed i) (x34 i)) in
    let y21 = c.pairs_exchanged.ensures ∙ ap (exchanged 2) y12 in
    let y34 = c.xor.ensures ∙ (λ i. xor_l 4 (y21 i) (x34 i)) in
    c.joined.ensures ∙ (λ i. y12 i ++ y34 i) ∙ p16_halves c.args.x
