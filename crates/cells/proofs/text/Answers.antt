use Rattle.std.proofs.Common.{ap}
use Rattle.cells.specs.Cells.{Cell, cell}
use Rattle.cells.proofs.AllCells.{with_rest, reaching_start, reaching_next}
use Rattle.cells.proofs.text.Goals as goal

pub loop-init : goal.loop-init
loop-init c = reaching_start _ _

pub loop-preserved : goal.loop-preserved
loop-preserved c =
    let r = c.in-Some-len1-up.field-0 in
    let e = with_rest (cell c.loop.rest.now) r.text.now r.rest.now c.in-Some-len1-up.ensures c.in-Some-len1-up.len_at_least in
    reaching_next c.loop.invariant c.loop-test.true (ap (λ (x : Cell). x.rest) e)
