use mathlib.Core.Path.{◌∙◌}
use Rattle.runs.proofs.All.{all_next, all_so_far}
use Rattle.runs.proofs.all_from.Goals as goal

pub loop-i-preserved : goal.loop-i-preserved
loop-i-preserved c = all_next c.args.byte c.args.bytes.now c.loop-i.i c.loop-i.any c.loop-i-test.true ∙ c.loop-i.invariant

pub returns : goal.returns
returns c = all_so_far c.args.byte c.args.bytes.now c.loop-i.i c.loop-i.any c.loop-i-test.false ∙ c.loop-i.invariant
