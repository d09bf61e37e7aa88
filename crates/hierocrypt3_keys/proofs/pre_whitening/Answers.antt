use mathlib.Core.Path.{ap, ◌∙◌}
use mathlib.Core.List.{List}
use Prim.Native.Nat.{ℕ}
use Rattle.laws.specs.Bytes.{xor_l}
use Rattle.hierocrypt3_keys.specs.Operations.{Fσ}
use Rattle.hierocrypt3_keys.specs.Keys.{σ0}
use Rattle.hierocrypt3_keys.proofs.pre_whitening.Goals as goal

pub returns : goal.returns
unfolding σ0
returns c = let args = c.args in
    let y3 = c.xor-y3.ensures ∙ ap (λ (l : List ℕ). xor_l 8 l args.g) c.m5e.ensures in
    let v = c.f_sigma.ensures ∙ ap Fσ (c.xor.ensures ∙ ap (xor_l 8 args.z.z2) y3) in
    let y2 = c.xor-y2.ensures ∙ ap (xor_l 8 args.z.z1) v in
    λ i. record { z1 = args.z.z2; z2 = y2 i; z3 = y3 i; z4 = c.m5e-y4.ensures i }
