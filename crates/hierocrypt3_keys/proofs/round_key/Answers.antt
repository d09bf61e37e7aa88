use mathlib.Core.Path.{◌∙◌, subst}
use Prim.Native.Nat.{ℕ, ◌+◌, ◌≤◌, ◌<◌}
use Rattle.hierocrypt3_tables.specs.Constants.{constant}
use Rattle.hierocrypt3_keys.specs.Keys.{t_turn, plaintext_side, ciphertext_side, key_of}
use Rattle.hierocrypt3_keys.proofs.KeyLengths.{plaintext_side_lem, ciphertext_side_lem}
use Rattle.hierocrypt3_keys.proofs.round_key.Goals as goal

pub returns-then-t-t_turn : goal.returns-then-t-t_turn
unfolding key_of
returns-then-t-t_turn c = let args = c.args in
    let g = constant args.length.bytes (args.t + 1) in
    c.plaintext_side.ensures
    ∙ plaintext_side_lem args.t (t_turn args.length.bytes) (plaintext_side args.before args.z) (ciphertext_side g args.before args.z)
    (subst (λ (m : ℕ). args.t < m) c.t_turn.ensures c.if-t-t_turn.true)

pub returns : goal.returns
unfolding key_of
returns c = let args = c.args in
    let g = constant args.length.bytes (args.t + 1) in
    c.ciphertext_side.ensures
    ∙ (λ i. ciphertext_side (c.constant.ensures i) args.before args.z)
    ∙ ciphertext_side_lem args.t (t_turn args.length.bytes) (plaintext_side args.before args.z) (ciphertext_side g args.before args.z)
    (subst (λ (m : ℕ). m ≤ args.t) c.t_turn.ensures c.if-t-t_turn.false)
