-- `Table::new`: the one computed test over the table's 256 entries.
use mathlib.Core.Path.{refl}
use Rattle.laws.specs.Field.{product}
use Rattle.laws.proofs.Power.{power_bits}
use Rattle.e2_table.proofs.TableRule.{right, table_by_rule}
use Rattle.e2_table.proofs.Table.new.Goals as goal

pub invariant_of-result : goal.invariant_of-result
unfolding right power_bits product
invariant_of-result c = record { is_s = table_by_rule _ refl tt }
