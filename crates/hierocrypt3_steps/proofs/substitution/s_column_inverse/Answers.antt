use borrow.Author.Rules.{rules}
use Rattle.hierocrypt3_steps.specs.code.Columns.{s_column⁻}
use Rattle.hierocrypt3_steps.proofs.substitution.s_column_inverse.Goals as goal

pub returns : goal.returns
unfolding s_column⁻
returns c = search rules
