use mathlib.Core.Path.{refl}
use native.Mathlib.Omega.{arith}
use Rattle.card_rules.specs.Rules.{may_be}
use Rattle.card_rules.specs.code.LegalElse.{all_may_be}
use Rattle.card_rules.proofs.LegalElse.{recipe_decides, segment_decides, target_decides, rate_decides, hold_decides}
use Rattle.card_rules.proofs.with.Goals as goal

pub returns-in-Recipe : goal.returns-in-Recipe
unfolding may_be
returns-in-Recipe c = rw c.in-Recipe.is (recipe_decides _ _ refl refl refl refl)

pub returns-in-Segment : goal.returns-in-Segment
unfolding may_be
returns-in-Segment c = rw c.in-Segment.is (segment_decides _ _ refl c.byte.ensures refl refl)

pub returns-in-Target : goal.returns-in-Target
unfolding may_be
returns-in-Target c = rw c.in-Target.is (target_decides _ _ refl refl refl refl)

pub returns-in-Rate : goal.returns-in-Rate
unfolding may_be all_may_be
returns-in-Rate c = rw c.in-Rate.is (rate_decides _ _ refl (omega arith) refl)

pub returns-in-Hold : goal.returns-in-Hold
unfolding may_be all_may_be
returns-in-Hold c = rw c.in-Hold.is (hold_decides _ _ refl (omega arith) refl)
