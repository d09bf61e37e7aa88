use mathlib.Core.Path.{ap, ◌∙◌}
use Prim.Native.Nat.{ℕ, ◌+◌}
use native.Mathlib.Omega.{arith}
use borrow.Author.Rules.{rules}
use lib.Dec.{eqb}
use Rattle.laws.specs.Choice.{choose}
use Rattle.card_compare.proofs.Walk.{Next, walk_start, walk_most, walk_on, walk_end}
use Rattle.card_compare.proofs.merge.changes.Goals as goal

pub loop-i-init : goal.loop-i-init
loop-i-init c = walk_start _ _ _ _ _ c.requires.4

pub loop-i-preserved : goal.loop-i-preserved
loop-i-preserved c =
    let pre = c.requires in
    let x = c.number-x.ensures in
    let y = c.number-y.ensures in
    let z = c.min-z.ensures in
    -- what stands next, once it is marked
    let next : Next c.args.first.now c.args.second.now c.args.a.now c.args.b.now c.loop-i.i c.loop-i.j c.min-z.result c.mark-m.result
    = record {
      more = c.loop-i-test.true;
      low_a = omega arith;
      low_b = omega arith;
      least = λ h. omega arith ∙ y;
      marked = c.mark-m.ensures;
      byte = search rules;
    } in
    -- a pointer goes on where its number is the lesser
    walk_on pre.0 pre.1 pre.2 pre.3 c.loop-i.invariant next
    (ap (λ (m : ℕ). c.loop-i.i + m) (c.one_if-i.ensures.1 ∙ ap (λ (v : ℕ). choose (eqb v c.min-z.result) 1 0) x))
    (ap (λ (m : ℕ). c.loop-i.j + m) (c.one_if-j.ensures.1 ∙ ap (λ (v : ℕ). choose (eqb v c.min-z.result) 1 0) y))
    (ap (λ (m : ℕ). c.loop-i.n + m) c.one_if-n.ensures.1)

pub returns : goal.returns
returns c =
    let pre = c.requires in
    let w = c.loop-i.invariant in
    (walk_most pre.0 pre.1 pre.2 pre.3 w, walk_end pre.0 pre.1 pre.2 pre.3 w c.loop-i-test.false)
