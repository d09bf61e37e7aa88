use native.Mathlib.Omega.{arith}
use Rattle.wording.proofs.Adding.{adds_as}
use Rattle.card_words.proofs.KindTexts.{text_climb, text_hold, text_drop}
use Rattle.card_words.proofs.kind.Goals as goal

pub returns-in-1 : goal.returns-in-1
returns-in-1 c = adds_as (text_climb c.args.kind c.in-1.is) c.words.ensures

pub returns-in-2 : goal.returns-in-2
returns-in-2 c = adds_as (text_hold c.args.kind c.in-2.is) c.words-in-2.ensures

pub returns-in_default : goal.returns-in_default
returns-in_default c = adds_as (text_drop c.args.kind (λ e. omega arith) (λ e. omega arith)) c.words-in_default.ensures
