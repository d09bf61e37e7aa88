use native.Mathlib.Omega.{arith}
use Rattle.card_keys.proofs.Collected.{collected_next, collected_end}
use Rattle.card_keys.proofs.unsorted.Goals as goal

pub loop-i-preserved : goal.loop-i-preserved
loop-i-preserved c =
    let w = c.loop-i.invariant in
    let few = c.requires in
    let h = c.loop-i-test.true in
    let l = c.at.ensures.holds in
    let e = c.key-k.ensures in
    collected_next w few h l e (λ u. grind arith) (λ u. grind arith)

pub returns : goal.returns
returns c =
    let w = c.loop-i.invariant in
    let low = w.low in
    let inside = w.inside in
    let few = c.requires in
    (omega arith, collected_end w (omega arith))
