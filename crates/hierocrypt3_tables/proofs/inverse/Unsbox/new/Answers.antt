use Rattle.hierocrypt3_tables.proofs.Sbox.{entries⁻, entries⁻_are}
use Rattle.hierocrypt3_tables.proofs.inverse.Unsbox.new.Goals as goal

pub invariant_of-result : goal.invariant_of-result
unfolding entries⁻
invariant_of-result c = record { is_s_inverse = entries⁻_are }
