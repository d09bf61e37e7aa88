use mathlib.Core.Path.{◌≡◌, sym, ap, ◌∙◌}
use mathlib.Core.List.{List, [], ◌∷◌}
use Prim.Native.Nat.{ℕ}
use native.Mathlib.Omega.{arith}
use borrow.Author.Rules.{rules}
use lib.ListN.{length}
use Rattle.laws.specs.Bytes.{xor_l}
use Rattle.cbc.specs.Cbc.{out, chain}
use Rattle.cbc.proofs.Loop.{running_start, running_next, running_end}
use Rattle.blocks_lent.proofs.chain.encipher_with.Goals as goal

pub loop-j-init : goal.loop-j-init
loop-j-init g c = let f = g.E.BlockFunction.of c.args.e.now c.args.keys.now in
    running_start f f 1 c.args.chain c.args.message.now c.args.out.now

pub loop-j-preserved : goal.loop-j-preserved
unfolding out chain
loop-j-preserved g c = let whole : length c.block-y.result ≡ 16 = search rules in
    let f = g.E.BlockFunction.of c.args.e.now c.args.keys.now in
    let last = c.loop-j.last in
    let y = sym (c.block-y.ensures ∙ ap f (c.xor.ensures ∙ ap (λ (x : List ℕ). xor_l 16 x last) c.block-x.ensures)) in
    running_next _ _ _ _ _ _ c.loop-j.invariant _ _ _ (ap (λ (b : List ℕ). b ∷ []) y) y whole c.store.ensures

pub returns-clause-last : goal.returns-clause-last
unfolding chain
returns-clause-last g c = let e : c.loop-j.j ≡ c.args.n = omega arith in
    (running_end _ _ _ _ _ _ c.loop-j.j c.args.n e c.loop-j.invariant).last_is

pub returns-clause-out : goal.returns-clause-out
unfolding out
returns-clause-out g c = let e : c.loop-j.j ≡ c.args.n = omega arith in
    (running_end _ _ _ _ _ _ c.loop-j.j c.args.n e c.loop-j.invariant).out_is
