use Rattle.std.specs.Int.Bits.{bit_xor}
use lib.ListN.{get_or}
use Rattle.laws.proofs.Places.{Filled}
use Rattle.words.proofs.bytes.xor.Given as goal

abbrev pub invariant-loop-i : goal.invariant-loop-i
invariant-loop-i g l = Filled g.row.N (λ j. bit_xor (get_or l.a j 0) (get_or l.b j 0)) 0 l.i l.x
