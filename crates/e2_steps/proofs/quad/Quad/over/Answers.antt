-- `Quad::over`: word by word.
use mathlib.Core.List.{[], ◌∷◌}
use mathlib.Core.Path.{◌∙◌}
use Rattle.laws.specs.Bytes.{bytes_of}
use Rattle.e2_steps.specs.Steps.{over_words, over}
use Rattle.e2_steps.proofs.ByWords.{by_words}
use borrow.Author.Rules.{rules}
use Rattle.e2_steps.proofs.quad.Quad.over.Goals as goal

pub returns : goal.returns
unfolding over
returns c = let a = c.args in
    let x = c.well_formed.0 in
    let y = c.well_formed.1.0 in
    (λ i. bytes_of (c.over_word.ensures i ∷ c.over_word-2.ensures i ∷ c.over_word-3.ensures i ∷ c.over_word-4.ensures i ∷ []))
    ∙ by_words over_words a.self a.y (search rules) (search rules)
