use native.Mathlib.Omega.{arith}
use Rattle.hex_text.specs.Hex.{white}
use Rattle.hex_text.proofs.Ranges.{white_is, not_white}
use Rattle.hex_text.proofs.characters.is_white.Goals as goal

pub returns-in_default : goal.returns-in_default
unfolding white
returns-in_default c = not_white 0 9 tt c.args.c (omega arith) (omega arith) (omega arith)

pub returns-in_default-2 : goal.returns-in_default-2
unfolding white
returns-in_default-2 c = not_white 14 242 tt c.args.c (omega arith) (omega arith) (omega arith)

pub returns-in-9-to-13 : goal.returns-in-9-to-13
unfolding white
returns-in-9-to-13 c = white_is 32 1 tt c.args.c (omega arith) (omega arith)

pub returns-in-9-to-13-2 : goal.returns-in-9-to-13-2
unfolding white
returns-in-9-to-13-2 c = white_is 9 5 tt c.args.c (omega arith) (omega arith)
