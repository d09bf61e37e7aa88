use Rattle.std.proofs.Common.{length, ap, arith}
use Rattle.cells.specs.Cells.{Cell, cell}
use Rattle.cells.proofs.AllCells.{cell_shorter, with_rest, counting_start, counting_next}
use Rattle.cells.proofs.count.Goals as goal

pub loop-cell-init : goal.loop-cell-init
loop-cell-init c = counting_start _

pub loop-cell-smaller : goal.loop-cell-smaller
loop-cell-smaller c =
    let r = c.in-Some.cell.rest.now in
    let short = cell_shorter c.loop-cell.rest.now in
    let e = ap (λ (x : Cell). length x.rest) (with_rest (cell c.loop-cell.rest.now) c.in-Some.cell.text.now r c.in-Some.ensures c.in-len1-up.len_at_least) in
    omega arith

pub loop-cell-preserved : goal.loop-cell-preserved
loop-cell-preserved c =
    counting_next c.loop-cell.invariant
    (with_rest (cell c.loop-cell.rest.now) c.in-Some.cell.text.now c.in-Some.cell.rest.now c.in-Some.ensures c.in-len1-up.len_at_least)
