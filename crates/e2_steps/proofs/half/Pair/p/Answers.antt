-- `Pair::p`: the sixteen steps by words.
use Rattle.e2_steps.proofs.StepsOfP.{P_of_words}
use borrow.Author.Rules.{rules}
use Rattle.e2_steps.proofs.half.Pair.p.Goals as goal

pub returns : goal.returns
returns c = let x = c.args.self in
    P_of_words x.a x.b _ _ (search rules) (search rules) c.rotated.ensures c.rotated-2.ensures
