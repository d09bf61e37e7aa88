use mathlib.Core.Path.{◌≡◌}
use Rattle.cbc.specs.Cbc.{chain, blocks}
use Rattle.blocks_lent.proofs.chain.last_with.Given as goal

abbrev pub invariant-loop-i : goal.invariant-loop-i
invariant-loop-i g l = l.last ≡ chain (g.E.BlockFunction.of l.e l.keys) 1 l.initial.last (blocks l.i l.message)
