use mathlib.Core.Path.{sym, ◌∙◌}
use Rattle.hierocrypt3_steps.specs.Operations.{MDSH⁻}
use Rattle.hierocrypt3.proofs.Numbered.{if_more, if_last}
use Rattle.hierocrypt3.proofs.block.unmixed.Goals as goal

pub returns-then-i-n : goal.returns-then-i-n
returns-then-i-n c = let args = c.args in
    c.mds_h_inverse.ensures
    ∙ sym (if_more args.i args.n (MDSH⁻ args.x) args.x c.if-i-n.true)

pub returns : goal.returns
returns c = sym (if_last c.args.i c.args.n (MDSH⁻ c.args.x) c.args.x c.if-i-n.false)
