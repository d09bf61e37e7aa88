use mathlib.Core.Path.{◌∙◌}
use borrow.Author.Rules.{rules}
use Rattle.laws.proofs.Rounds.{loops, steps_step}
use Rattle.hierocrypt3.proofs.Numbered.{encryption_end}
use Rattle.hierocrypt3.proofs.block.encryption.Goals as goal

pub loop-i-init : goal.loop-i-init
loop-i-init c = search (rules, loops)

pub loop-i-preserved : goal.loop-i-preserved
loop-i-preserved c = steps_step c.loop-i.invariant c.rho-y.ensures

pub returns : goal.returns
returns c = let args = c.args in
    c.add_key.ensures
    ∙ encryption_end args.keys.now args.n c.loop-i.i args.block c.loop-i.x c.loop-i.invariant
    (search rules) (search rules)
