-- `block::rounds`. The loop's invariant: after i rounds the halves are those of i rounds by their numbers.
use mathlib.Core.List.{List}
use mathlib.Core.Path.{sym, ap, ◌∙◌}
use Prim.Native.Nat.{ℕ, suc}
use native.Mathlib.Numerals.{add-one}
use borrow.Author.Rules.{rules}
use Rattle.laws.specs.Bytes.{xor_l}
use Rattle.laws.specs.Rounds.{swapped, half}
use Rattle.laws.proofs.Rounds.{steps_start, steps_step, steps_end, run-tab}
use Rattle.e2_steps.specs.code.Layout.{pair_bytes}
use Rattle.e2.specs.Block.{F, sequence, round_key}
use Rattle.e2.specs.code.Layout.{is_back}
use Rattle.e2.proofs.block.rounds.Goals as goal

pub loop-i-init : goal.loop-i-init
loop-i-init c = steps_start _ _

pub loop-i-preserved : goal.loop-i-preserved
loop-i-preserved c = let a = c.args in
    let q = c.loop-i in
    let key = c.sequence.ensures.0 ∙ ap (sequence (is_back a.order)) (add-one q.i) in
    let worked = c.f.ensures ∙ ap (λ (k : ℕ). F (pair_bytes q.r) (round_key a.keys.now k)) key in
    steps_step q.invariant (λ t. (pair_bytes q.r, (c.bitxor-n.ensures ∙ ap (xor_l 8 (pair_bytes q.l)) worked) t))

pub returns : goal.returns
returns c = let a = c.args in
    let keys : ℕ → List ℕ = λ i. round_key a.keys.now (sequence (is_back a.order) (suc i)) in
    ap (swapped F (xor_l 8))
    (steps_end 12 c.loop-i.invariant (search rules) (search rules)
    ∙ sym (run-tab (λ k q. swapped F (xor_l 8) (half F (xor_l 8) k q)) 12 keys (pair_bytes a.m.l, pair_bytes a.m.r)))
