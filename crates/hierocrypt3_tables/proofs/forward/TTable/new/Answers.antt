use mathlib.Core.Path.{refl, ap}
use lib.ListN.{get_or}
use Rattle.laws.specs.Field.{product}
use Rattle.laws.proofs.Table.{tab_computed}
use Rattle.hierocrypt3_tables.specs.Operations.{rows_l}
use Rattle.hierocrypt3_tables.specs.code.Tables.{first_column, t, t_table}
use Rattle.hierocrypt3_tables.proofs.Sbox.{entries, s_entry}
use Rattle.hierocrypt3_tables.proofs.forward.TTable.new.Goals as goal

pub invariant_of-result : goal.invariant_of-result
unfolding t_table t entries product
invariant_of-result c = record { is_t = tab_computed 256 t (λ x. first_column rows_l (get_or entries x 0)) (λ k h. ap (first_column rows_l) (s_entry k h)) _ refl tt }
