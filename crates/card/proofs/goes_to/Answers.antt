use Rattle.card.proofs.Answers.{goes_namesake, goes_empty}
use Rattle.card.proofs.goes_to.Goals as goal

pub returns-then-namesake-n : goal.returns-then-namesake-n
returns-then-namesake-n c = λ e. goes_namesake c.args.card.now c.args.«record».now _ _ _ c.recipe-recipe.ensures c.segment-segment.ensures c.of_pair-namesake.ensures c.if-namesake-n.true

pub returns : goal.returns
returns c = λ e. goes_empty c.args.card.now c.args.«record».now _ _ _ c.recipe-recipe.ensures c.segment-segment.ensures c.of_pair-namesake.ensures c.if-namesake-n.false c.of_empty-empty.ensures
