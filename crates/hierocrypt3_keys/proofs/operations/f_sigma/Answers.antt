use mathlib.Core.Path.{ap, ◌∙◌}
use mathlib.Core.List.{◌++◌}
use Rattle.hierocrypt3_keys.specs.Operations.{P, Fσ}
use Rattle.hierocrypt3_steps.specs.code.Columns.{s_column}
use Rattle.hierocrypt3_keys.proofs.operations.f_sigma.Goals as goal

pub returns : goal.returns
unfolding Fσ s_column
returns c = let s = c.joined.ensures ∙ (λ i. c.s_column.ensures i ++ c.s_column-2.ensures i) in
    c.p16.ensures ∙ ap (P 2) (s ∙ (λ i. s_column (c.part.ensures.placed i) ++ s_column (c.part-2.ensures.placed i)))
