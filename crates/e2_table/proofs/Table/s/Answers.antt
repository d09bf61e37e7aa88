-- `Table::s`: the table has 256 places, and what it holds at x is s x.
use mathlib.Core.List.{List}
use mathlib.Core.Path.{ap, ◌∙◌}
use Prim.Native.Nat.{ℕ}
use lib.ListN.{get_or}
use borrow.Author.Rules.{rules}
use Rattle.e2_table.proofs.TableRule.{s_table_at}
use Rattle.e2_table.proofs.Table.s.Goals as goal

pub returns : goal.returns
returns c = ap (λ (l : List ℕ). get_or l c.args.x 0) c.args.self.now.is_s ∙ s_table_at c.args.x (search rules)
