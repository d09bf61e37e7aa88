-- `block::first`: the steps of (M ⊕ k13) ⊗ k14 and BP.
use mathlib.Core.List.{List}
use mathlib.Core.Path.{ap, ap₂, ◌∙◌}
use Prim.Native.Nat.{ℕ}
use Rattle.laws.specs.Bytes.{xor_l}
use Rattle.e2_steps.specs.Steps.{times, BP}
use Rattle.e2.specs.Block.{first, round_key}
use Rattle.e2.proofs.block.first.Goals as goal

pub returns : goal.returns
unfolding first
returns c = let a = c.args in
    let k : ℕ → List ℕ = round_key a.keys.now in
    c.bp.ensures
    ∙ ap BP (c.times.ensures
    ∙ ap₂ times
    (c.bitxor.ensures ∙ ap₂ (xor_l 16) c.load.ensures (c.key-k13.ensures ∙ ap k c.sequence.ensures.0))
    (c.key-k14.ensures ∙ ap k c.sequence-2.ensures.0))
