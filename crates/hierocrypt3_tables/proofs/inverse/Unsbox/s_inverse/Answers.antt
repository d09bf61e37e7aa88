use borrow.Author.Rules.{rules}
use Rattle.hierocrypt3_tables.specs.Operations.{s⁻}
use Rattle.hierocrypt3_tables.specs.code.Tables.{s_table⁻}
use Rattle.hierocrypt3_tables.proofs.Entries.{entry}
use Rattle.hierocrypt3_tables.proofs.inverse.Unsbox.s_inverse.Goals as goal

pub returns : goal.returns
unfolding s_table⁻
returns c = entry s⁻ _ c.args.self.now.is_s_inverse _ (search rules)
