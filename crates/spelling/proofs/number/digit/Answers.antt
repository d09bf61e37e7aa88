use Rattle.std.proofs.Common.{Some, ap, arith}
use Rattle.spelling.specs.Number.{digit}
use Rattle.laws.proofs.Range.{inside, outside}
use Rattle.spelling.proofs.number.digit.Goals as goal

pub returns-in-48-to-57 : goal.returns-in-48-to-57
unfolding digit
returns-in-48-to-57 c = rw (inside 48 57 c.args.c (omega arith) (omega arith)) (ap Some c.from.ensures)

pub returns-in_default : goal.returns-in_default
unfolding digit
returns-in_default c = rw (outside 48 57 c.args.c (λ a b. omega arith))

pub returns-in_default-2 : goal.returns-in_default-2
unfolding digit
returns-in_default-2 c = rw (outside 48 57 c.args.c (λ a b. omega arith))
