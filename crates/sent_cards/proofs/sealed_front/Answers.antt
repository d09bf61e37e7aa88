use mathlib.Core.Path.{◌≡◌, ap, ◌∙◌, subst}
use mathlib.Core.List.{List, []}
use Prim.Native.Nat.{ℕ}
use native.Mathlib.Omega.{arith}
use Rattle.cipher.specs.declared.Schedule.{Schedule}
use Rattle.seal.specs.Promises.{StartsSeal, FeedsSeal, ChecksSeal}
use Rattle.seal.specs.Numbered.{Started, started_in_numbers, fed_in_numbers, checked_in_numbers}
use Rattle.sent_cards.proofs.Reached.{reached, start-reached}
use Rattle.sent_cards.proofs.Fronts.{looked_start, front_found, looked_on, no_front}
use Rattle.sent_cards.proofs.sealed_front.Goals as goal

started : (s : Schedule) (r : Started) → StartsSeal s r → r.seal ≡ reached s []
started s r h = ap (λ (x : Started). x.seal) h.returned ∙ start-reached s

pub loop-n-init : goal.loop-n-init
loop-n-init c = (omega arith, λ s e. looked_start s _ _ e)

pub returns-then-checked-clause-front : goal.returns-then-checked-clause-front
returns-then-checked-clause-front c =
    let a = c.args in
    front_found a.schedule a.file.now (omega arith) c.loop-n.seal c.loop-n.n
    (c.loop-n.invariant.1 a.schedule (started a.schedule (started_in_numbers c.start-begun.result) c.start-begun.ensures))
    (omega (arith, c.loop-n-test.true, c.saturating_sub-n-end.ensures))
    (fed_in_numbers c.feed-fed.result) (subst (λ (p : List ℕ). FeedsSeal c.loop-n.seal p (fed_in_numbers c.feed-fed.result)) c.block.ensures c.feed-fed.ensures)
    (checked_in_numbers c.check-checked.result)
    (subst (λ (p : List ℕ). ChecksSeal c.feed-fed.result.next p (checked_in_numbers c.check-checked.result)) c.block-in-loop-n.ensures c.check-checked.ensures)
    c.if-checked.true

pub loop-n-preserved : goal.loop-n-preserved
loop-n-preserved c =
    let a = c.args in (
      omega arith,
      λ s e.
          looked_on s a.file.now (omega arith) c.loop-n.seal c.loop-n.n (c.loop-n.invariant.1 s e)
          (omega (arith, c.loop-n-test.true, c.saturating_sub-n-end.ensures))
          (fed_in_numbers c.feed-fed.result) (subst (λ (p : List ℕ). FeedsSeal c.loop-n.seal p (fed_in_numbers c.feed-fed.result)) c.block.ensures c.feed-fed.ensures)
          (checked_in_numbers c.check-checked.result)
          (subst (λ (p : List ℕ). ChecksSeal c.feed-fed.result.next p (checked_in_numbers c.check-checked.result)) c.block-in-loop-n.ensures c.check-checked.ensures)
          c.if-checked.false,
    )

pub returns-clause-front : goal.returns-clause-front
returns-clause-front c =
    let a = c.args in
    no_front a.schedule a.file.now (omega arith) c.loop-n.seal c.loop-n.n
    (c.loop-n.invariant.1 a.schedule (started a.schedule (started_in_numbers c.start-begun.result) c.start-begun.ensures))
    (omega (arith, c.loop-n-test.false, c.saturating_sub-n-end.ensures))
