-- `block::f`: the steps of F, with the two halves of the key where they stand among the round keys.
use mathlib.Core.Path.{sym, ap, ap₂, ◌∙◌}
use Prim.Native.Nat.{◌-◌, ◌*◌}
use Rattle.laws.specs.Bytes.{xor_l}
use Rattle.e2_steps.specs.Steps.{BRL, S, P}
use Rattle.e2_steps.specs.code.Layout.{pair_bytes}
use Rattle.e2.proofs.RoundFunction.{F_at}
use Rattle.e2.proofs.block.f.Goals as goal

pub returns : goal.returns
returns c = let a = c.args in
    let x = pair_bytes a.x in
    c.brl.ensures
    ∙ ap BRL (c.s.ensures
    ∙ ap S (c.bitxor-c.ensures
    ∙ ap₂ (xor_l 8)
    (c.p.ensures ∙ ap P (c.s-b.ensures ∙ ap S (c.bitxor-a.ensures ∙ ap (xor_l 8 x) c.load.ensures)))
    c.load-2.ensures))
    ∙ sym (F_at ((a.i - 1) * 16) x a.keys.now)
