use Rattle.cbc.proofs.Loop.{Running}
use Rattle.blocks_lent.proofs.chain.decipher_with.Given as goal

abbrev pub invariant-loop-k : goal.invariant-loop-k
invariant-loop-k g l =
    let f = g.D.BlockFunction.of l.d l.keys in
    Running f f 2 l.initial.last l.message l.initial.out l.k l.last l.out
