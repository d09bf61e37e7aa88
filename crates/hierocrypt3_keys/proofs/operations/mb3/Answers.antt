use mathlib.Core.Path.{◌∙◌}
use mathlib.Core.List.{◌++◌}
use lib.Bits.{bit_xor}
use Rattle.laws.specs.Matrix.{bit_matrix}
use Rattle.hierocrypt3_steps.specs.Operations as operations
use Rattle.hierocrypt3_keys.specs.Operations.{c⁻, MB3}
use Rattle.hierocrypt3_keys.proofs.operations.mb3.Goals as goal

pub returns : goal.returns
unfolding MB3
returns c = c.joined.ensures
    ∙ (λ i. c.bit_matrix.ensures i ++ c.bit_matrix-2.ensures i)
    ∙ (λ i. bit_matrix bit_xor 0 4 operations.d (c.part.ensures.placed i) ++ bit_matrix bit_xor 0 4 c⁻ (c.part-2.ensures.placed i))
