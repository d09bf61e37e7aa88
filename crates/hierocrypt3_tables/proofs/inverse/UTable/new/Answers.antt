use mathlib.Core.Path.{refl}
use Rattle.laws.specs.Field.{product}
use Rattle.laws.proofs.Table.{tab_computed}
use Rattle.hierocrypt3_tables.specs.code.Tables.{u, u_table}
use Rattle.hierocrypt3_tables.proofs.inverse.UTable.new.Goals as goal

pub invariant_of-result : goal.invariant_of-result
unfolding u_table u product
invariant_of-result c = record { is_u = tab_computed 256 u u (λ k h. refl) _ refl tt }
