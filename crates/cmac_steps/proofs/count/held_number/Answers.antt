use native.Mathlib.Omega.{arith}
use Rattle.cmac.proofs.Cut.{earlier_is}
use Rattle.cmac_steps.proofs.count.held_number.Goals as goal

pub returns-else-count-eq0 : goal.returns-else-count-eq0
returns-else-count-eq0 c = let e = earlier_is c.args.count in (omega arith, omega arith)
