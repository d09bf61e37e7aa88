use mathlib.Core.Bool.{and-false}
use native.Mathlib.Omega.{arith}
use borrow.Author.Tests.{lt-leb}
use Rattle.card_rules.specs.Rules.{may_be}
use Rattle.card_rules.proofs.byte.Goals as goal

pub returns-then-value-gt255 : goal.returns-then-value-gt255
unfolding may_be
returns-then-value-gt255 c = simp (lt-leb c.args.value 32 (omega arith), and-false)
