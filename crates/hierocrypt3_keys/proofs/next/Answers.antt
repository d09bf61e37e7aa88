use mathlib.Core.Path.{◌∙◌, subst}
use Prim.Native.Nat.{ℕ, ◌+◌, ◌≤◌, ◌<◌}
use Rattle.hierocrypt3_tables.specs.Constants.{constant}
use Rattle.hierocrypt3_keys.specs.Keys.{t_turn, σ, σ⁻, next}
use Rattle.hierocrypt3_keys.proofs.KeyLengths.{plaintext_side_lem, ciphertext_side_lem}
use Rattle.hierocrypt3_keys.proofs.next.Goals as goal

pub returns-then-t-t_turn : goal.returns-then-t-t_turn
unfolding next
returns-then-t-t_turn c = let args = c.args in
    let g = constant args.length.bytes (args.t + 1) in
    c.sigma.ensures
    ∙ (λ i. σ (c.constant-g.ensures i) args.z)
    ∙ plaintext_side_lem args.t (t_turn args.length.bytes) (σ g args.z) (σ⁻ g args.z)
    (subst (λ (m : ℕ). args.t < m) c.t_turn.ensures c.if-t-t_turn.true)

pub returns : goal.returns
unfolding next
returns c = let args = c.args in
    let g = constant args.length.bytes (args.t + 1) in
    c.sigma_inverse.ensures
    ∙ (λ i. σ⁻ (c.constant-g.ensures i) args.z)
    ∙ ciphertext_side_lem args.t (t_turn args.length.bytes) (σ g args.z) (σ⁻ g args.z)
    (subst (λ (m : ℕ). m ≤ args.t) c.t_turn.ensures c.if-t-t_turn.false)
