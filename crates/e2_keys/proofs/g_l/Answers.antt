-- `g_l`: each sub-block of L from the one before.
use mathlib.Core.List.{List, [], ◌∷◌}
use mathlib.Core.Path.{ap, ◌∙◌}
use Prim.Native.Nat.{ℕ}
use Rattle.laws.specs.Bytes.{xor_l}
use Rattle.e2_steps.specs.Steps.{S, P}
use Rattle.e2_steps.specs.code.Layout.{pair_bytes}
use Rattle.e2_keys.specs.Keys.{Li, L}
use Rattle.e2_keys.proofs.g_l.Goals as goal

pub returns : goal.returns
unfolding L Li
returns c = let y = c.args.y in
    let mixed : List ℕ → List ℕ = λ x. P (S x) in
    let e0 = c.bitxor-l0.ensures ∙ ap (xor_l 8 (pair_bytes y.x0)) c.ps.ensures in
    let e1 = c.bitxor-l1.ensures ∙ ap (λ (x : List ℕ). xor_l 8 x (pair_bytes y.x1)) (c.ps-m1.ensures ∙ ap mixed e0) in
    let e2 = c.bitxor-l2.ensures ∙ ap (λ (x : List ℕ). xor_l 8 x (pair_bytes y.x2)) (c.ps-m2.ensures ∙ ap mixed e1) in
    let e3 = c.bitxor-l3.ensures ∙ ap (λ (x : List ℕ). xor_l 8 x (pair_bytes y.x3)) (c.ps-m3.ensures ∙ ap mixed e2) in
    λ i. e0 i ∷ e1 i ∷ e2 i ∷ e3 i ∷ []
