use native.Mathlib.Omega.{arith}
use Rattle.laws.proofs.Places.{fill_end}
use Rattle.words.proofs.bytes.xor.Goals as goal

pub returns : goal.returns
returns g c = fill_end c.loop-i.invariant (omega arith)
