use lib.Bits.{bit_xor}
use Rattle.hierocrypt3_steps.specs.code.Columns.{bit_row}
use Rattle.hierocrypt3_steps.proofs.bits.bit_row.Goals as goal

pub returns : goal.returns
unfolding bit_row
returns c = λ i. bit_xor (bit_xor (bit_xor (c.picked.ensures i) (c.picked-2.ensures i)) (c.picked-3.ensures i))
    (c.picked-4.ensures i)
