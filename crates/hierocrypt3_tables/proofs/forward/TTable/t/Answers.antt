use borrow.Author.Rules.{rules}
use Rattle.hierocrypt3_tables.specs.code.Tables.{t}
use Rattle.hierocrypt3_tables.specs.code.Tables.{t_table}
use Rattle.hierocrypt3_tables.proofs.Entries.{entry}
use Rattle.hierocrypt3_tables.proofs.forward.TTable.t.Goals as goal

pub returns : goal.returns
unfolding t_table
returns c = entry t _ c.args.self.now.is_t _ (search rules)
