use Rattle.hierocrypt3_tables.proofs.Sbox.{entries, entries_are}
use Rattle.hierocrypt3_tables.proofs.forward.Sbox.new.Goals as goal

pub invariant_of-result : goal.invariant_of-result
unfolding entries
invariant_of-result c = record { is_s = entries_are }
