-- `half::s_word`: s of each byte.
use mathlib.Core.Path.{ap, ◌∙◌, transport}
use Rattle.words.specs.Word.{WordOf}
use Rattle.e2_table.specs.Substitution.{s}
use Rattle.e2_steps.proofs.half.s_word.Goals as goal

pub returns : goal.returns
returns c = let e0 = c.s.ensures ∙ ap s c.byte0.ensures in
    let e1 = c.s-2.ensures ∙ ap s c.byte1.ensures in
    let e2 = c.s-3.ensures ∙ ap s c.byte2.ensures in
    let e3 = c.s-4.ensures ∙ ap s c.byte3.ensures in
    transport (λ i. WordOf (e0 i) (e1 i) (e2 i) (e3 i) c.word.result) c.word.ensures
