use mathlib.Core.Path.{◌∙◌}
use borrow.Author.Rules.{rules}
use Rattle.laws.proofs.Rounds.{loops, back_step, back_end}
use Rattle.hierocrypt3.proofs.Numbered.{decryption_end}
use Rattle.hierocrypt3.proofs.block.decryption.Goals as goal

pub loop-i-init : goal.loop-i-init
loop-i-init c = search (rules, loops)

pub loop-i-preserved : goal.loop-i-preserved
loop-i-preserved c = back_step c.loop-i.invariant (search rules) c.rho_inverse-y.ensures

pub returns : goal.returns
returns c = let args = c.args in
    back_end c.loop-i.invariant (search rules)
    ∙ decryption_end args.keys.now args.n args.block c.add_key-x.result c.add_key-x.ensures
