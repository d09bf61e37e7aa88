use Rattle.std.proofs.Common.{length, ap, ◌∙◌, subst, arith}
use Rattle.std.proofs.lemmas.Slice.{between_to_end}
use borrow.Author.Tests.{ltb-true}
use Rattle.cells.specs.Cells.{Cell, quoted}
use Rattle.cells.specs.code.Found.{Is}
use Rattle.cells.proofs.OneCell.{cell_quoted, cell_bare}
use Rattle.cells.proofs.cut.Goals as goal
use Rattle.cells.proofs.cut.Goals.{in_default-via-then-start-lt1, in_default-via-else-start-lt1+in_default-1}

pub returns-in-34 : goal.returns-in-34
returns-in-34 c =
    let start = c.after_blanks-start.result.now in
    let P : Cell → Type 0 = λ x. Is x c.quoted.result in
    subst P
    (ap quoted (between_to_end start 1 (length start) (omega arith)) ∙ cell_quoted c.args.text.now c.after_blanks-start.ensures (omega arith) (omega arith))
    c.quoted.ensures

pub returns-in_default : goal.returns-in_default
returns-in_default c =
    let P : Cell → Type 0 = λ x. Is x c.bare.result in
    subst P
    (cell_bare c.args.text.now c.after_blanks-start.ensures
    (λ a b. elim c.in_default.branch [ in_default-via-then-start-lt1 w ↦ omega (arith, ltb-true) | in_default-via-else-start-lt1+in_default-1 w ↦ omega arith ]))
    c.bare.ensures
