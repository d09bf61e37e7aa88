use mathlib.Core.Path.{refl, ◌∙◌}
use native.Mathlib.Omega.{arith}
use Rattle.card_rules.specs.Rules.{may_be}
use Rattle.card_rules.proofs.LegalElse.{kind_decides, judged_filled}
use Rattle.card_rules.proofs.is_kind.Goals as goal

pub returns : goal.returns
unfolding may_be
returns c = judged_filled c.keeps_rules.ensures (omega arith) ∙ kind_decides _ refl refl refl
