use mathlib.Core.Logic.{⊎_elim}
use borrow.Author.Rules.{rules}
use Rattle.wording.proofs.Filling.{uses_one, uses_one_too, uses_none}
use Rattle.wording.proofs.uses.Goals as goal

pub returns-in-36 : goal.returns-in-36
returns-in-36 c = let x = c.args.c in
    ⊎_elim (uses_one x) (uses_one_too x) c.in-36.is

pub returns-in_default : goal.returns-in_default
returns-in_default c = let x = c.args.c in
    uses_none x (search rules) (search rules)
