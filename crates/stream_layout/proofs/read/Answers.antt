use native.Mathlib.Omega.{arith}
use Rattle.stream_layout.specs.Layout.{spelt}
use Rattle.stream_layout.proofs.Numbers.{one_byte}
use Rattle.stream_layout.proofs.read.Goals as goal

pub returns : goal.returns
unfolding spelt
returns c =
    let r = c.args.«record».now in
    let l = c.requires in
    rw (
      one_byte r 0 (omega arith),
      one_byte r 1 (omega arith),
      one_byte r 2 (omega arith),
      one_byte r 3 (omega arith),
      c.at.ensures,
      c.part.ensures.taken,
      c.part-2.ensures.taken,
    )
