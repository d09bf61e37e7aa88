use mathlib.Core.Path.{sym, ap, ◌∙◌}
use Prim.Native.Nat.{◌+◌}
use Rattle.hierocrypt3_steps.specs.Operations.{MDSH}
use Rattle.hierocrypt3.specs.Block.{XS, ρ, round_key}
use Rattle.hierocrypt3.proofs.Numbered.{if_more, if_last}
use Rattle.hierocrypt3.proofs.block.rho.Goals as goal

pub returns-then-i-n : goal.returns-then-i-n
unfolding ρ
returns-then-i-n c = let args = c.args in
    let k = round_key args.keys.now (args.i + 1) in
    c.mds_h.ensures
    ∙ ap MDSH c.xs-y.ensures
    ∙ sym (if_more args.i args.n (ρ k args.x) (XS k args.x) c.if-i-n.true)

pub returns : goal.returns
returns c = let args = c.args in
    let k = round_key args.keys.now (args.i + 1) in
    c.xs-y.ensures
    ∙ sym (if_last args.i args.n (ρ k args.x) (XS k args.x) c.if-i-n.false)
