use borrow.Author.Rules.{rules}
use Rattle.hierocrypt3_tables.specs.code.Tables.{u}
use Rattle.hierocrypt3_tables.specs.code.Tables.{u_table}
use Rattle.hierocrypt3_tables.proofs.Entries.{entry}
use Rattle.hierocrypt3_tables.proofs.inverse.UTable.u.Goals as goal

pub returns : goal.returns
unfolding u_table
returns c = entry u _ c.args.self.now.is_u _ (search rules)
