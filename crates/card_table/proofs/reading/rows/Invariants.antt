use Rattle.std.proofs.Common.{◌≡◌, ◌+◌, ◌≤◌, ◌<◌, true, suc, length}
use Rattle.card_table.specs.Table as page
use Rattle.card_table.specs.Table.{read_as, with_lines}
use Rattle.card_table.specs.code.State.{read_of}
use Rattle.card_table.proofs.reading.rows.Given as goal

abbrev pub invariant-loop-rest : goal.invariant-loop-rest
invariant-loop-rest g l =
    (l.number + length l.rest ≤ suc (length l.table)) × (l.read.records < l.number) × (length l.card ≡ length l.initial.card) × (length l.lines ≡ length l.initial.lines)
    × (with_lines (read_of l.read l.card) (page.lines l.rest) ≡ with_lines (read_as true 0 l.initial.card) (page.lines l.table))

abbrev pub decreases-loop-rest : goal.decreases-loop-rest
decreases-loop-rest g l = length l.rest
