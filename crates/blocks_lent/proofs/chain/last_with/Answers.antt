use mathlib.Core.Path.{◌≡◌, sym}
use native.Mathlib.Omega.{arith}
use Rattle.cbc.specs.Cbc.{chain}
use Rattle.cbc.proofs.Parts.{chain_none}
use Rattle.cbc.proofs.Loop.{chain_next}
use Rattle.blocks_lent.proofs.chain.last_with.Goals as goal

pub loop-i-init : goal.loop-i-init
loop-i-init g c = let f = g.E.BlockFunction.of c.args.e.now c.args.keys.now in
    sym (chain_none f f 1 c.args.chain)

pub loop-i-preserved : goal.loop-i-preserved
loop-i-preserved g c = let a = c.args in
    chain_next (g.E.BlockFunction.of a.e.now a.keys.now) a.chain a.message.now c.loop-i.i _ _ _ _
    c.loop-i.invariant c.block-x.ensures c.xor.ensures c.block-c.ensures

pub returns : goal.returns
unfolding chain
returns g c = let e : c.loop-i.i ≡ c.args.n = omega arith in
    rw e at c.loop-i.invariant
