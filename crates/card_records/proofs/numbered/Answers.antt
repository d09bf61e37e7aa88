use native.Mathlib.Nat.{mod-lt}
use native.Mathlib.Omega.{arith}
use Rattle.card_records.proofs.numbered.Goals as goal

pub overflow_add-n-2 : goal.overflow_add-n-2
overflow_add-n-2 c = omega (arith, mod-lt c.args.n {m = c.args.kinds} (omega arith))
