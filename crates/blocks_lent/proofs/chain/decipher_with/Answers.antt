use mathlib.Core.Path.{◌≡◌, sym, ap, ◌∙◌}
use mathlib.Core.List.{List, [], ◌∷◌}
use Prim.Native.Nat.{ℕ}
use native.Mathlib.Omega.{arith}
use borrow.Author.Rules.{rules}
use lib.ListN.{length}
use Rattle.laws.specs.Bytes.{xor_l}
use Rattle.cbc.specs.Cbc.{out, chain}
use Rattle.cbc.proofs.Loop.{running_start, running_next, running_end}
use Rattle.blocks_lent.proofs.chain.decipher_with.Goals as goal

pub loop-k-init : goal.loop-k-init
loop-k-init g c = let f = g.D.BlockFunction.of c.args.d.now c.args.keys.now in
    running_start f f 2 c.args.chain c.args.message.now c.args.out.now

pub loop-k-preserved : goal.loop-k-preserved
unfolding out chain
loop-k-preserved g c = let whole : length c.xor-y.result ≡ 16 = search rules in
    let f = g.D.BlockFunction.of c.args.d.now c.args.keys.now in
    let last = c.loop-k.last in
    let y = sym (c.xor-y.ensures ∙ ap (λ (x : List ℕ). xor_l 16 x last) (c.block.ensures ∙ ap f c.block-x.ensures)) in
    running_next _ _ _ _ _ _ c.loop-k.invariant _ _ _ (ap (λ (b : List ℕ). b ∷ []) y) (sym c.block-x.ensures) whole c.store.ensures

pub returns-clause-last : goal.returns-clause-last
unfolding chain
returns-clause-last g c = let e : c.loop-k.k ≡ c.args.n = omega arith in
    (running_end _ _ _ _ _ _ c.loop-k.k c.args.n e c.loop-k.invariant).last_is

pub returns-clause-out : goal.returns-clause-out
unfolding out
returns-clause-out g c = let e : c.loop-k.k ≡ c.args.n = omega arith in
    (running_end _ _ _ _ _ _ c.loop-k.k c.args.n e c.loop-k.invariant).out_is
