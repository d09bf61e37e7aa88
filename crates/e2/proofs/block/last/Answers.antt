-- `block::last`: the steps of (BP⁻(M) ⊘ k15) ⊕ k16.
use mathlib.Core.List.{List}
use mathlib.Core.Path.{ap, ap₂, ◌∙◌}
use Prim.Native.Nat.{ℕ}
use Rattle.laws.specs.Bytes.{xor_l}
use Rattle.e2_steps.specs.Steps.{over}
use Rattle.e2.specs.Block.{last, round_key}
use Rattle.e2.proofs.block.last.Goals as goal

pub returns : goal.returns
unfolding last
returns c = let a = c.args in
    let k : ℕ → List ℕ = round_key a.keys.now in
    c.store.ensures
    ∙ c.bitxor.ensures
    ∙ ap₂ (xor_l 16)
    (c.over.ensures ∙ ap₂ over c.bp_inverse.ensures (c.key-k15.ensures ∙ ap k c.sequence.ensures.0))
    (c.key-k16.ensures ∙ ap k c.sequence-2.ensures.0)
