use native.Mathlib.Omega.{arith}
use borrow.Author.Rules.{rules}
use Rattle.card_slots.proofs.Slots.{looked_on, looked_here, looked_end}
use Rattle.card_slots.proofs.search.first.Goals as goal

pub returns-then-passes : goal.returns-then-passes
returns-then-passes g c = λ t tells.
    looked_here (c.loop-i.invariant.1 t tells) c.loop-i-test.true c.at.ensures.holds (tells c.at.result _ (search rules)) c.if-passes.true

pub loop-i-preserved : goal.loop-i-preserved
loop-i-preserved g c = (
  search rules,
  λ t tells.
      looked_on (c.loop-i.invariant.1 t tells) c.loop-i-test.true c.at.ensures.holds (tells c.at.result _ (search rules)) c.if-passes.false,
)

pub returns : goal.returns
returns g c = λ t tells. looked_end (c.loop-i.invariant.1 t tells) (omega arith)
