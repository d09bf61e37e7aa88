use mathlib.Core.Path.{◌≡◌}
use lib.ListN.{length}
use borrow.Author.Rules.{rules}
use native.Mathlib.Omega.{arith}
use Rattle.card.proofs.Answers.{good_slots, good_long, good_illegal, judged_bad, judged_twice, judged_ordered}
use Rattle.card.proofs.judged.Goals as goal

pub returns-then-card-ne0 : goal.returns-then-card-ne0
returns-then-card-ne0 c = judged_bad _ _ (good_slots c.args.card.now (λ e. omega arith))

pub returns-then-card-gt4096 : goal.returns-then-card-gt4096
returns-then-card-gt4096 c = judged_bad _ _ (good_long c.args.card.now (omega arith) (omega arith))

pub returns-then-of_illegal-card : goal.returns-then-of_illegal-card
returns-then-of_illegal-card c =
    judged_bad _ _
    (good_illegal c.args.card.now (omega arith) (omega arith) _ c.of_illegal.ensures (omega arith))

pub returns-then-not-apart : goal.returns-then-not-apart
returns-then-not-apart c =
    judged_twice c.args.card.now (omega arith) (omega arith) _ c.of_illegal.ensures (omega arith) _ _ c.by_pair-n.ensures
    c.apart.result c.apart.ensures c.if-not-apart.true

pub returns : goal.returns
returns c =
    let long : length c.by_pair-n.new.places ≡ 256 = search rules in
    judged_ordered c.args.card.now (omega arith) (omega arith) _ c.of_illegal.ensures (omega arith) _ _ c.by_pair-n.ensures
    c.apart.result c.apart.ensures long c.if-not-apart.false
