use Rattle.cbc.proofs.Loop.{Running}
use Rattle.blocks_lent.proofs.chain.encipher_with.Given as goal

abbrev pub invariant-loop-j : goal.invariant-loop-j
invariant-loop-j g l =
    let f = g.E.BlockFunction.of l.e l.keys in
    Running f f 1 l.initial.last l.message l.initial.out l.j l.last l.out
