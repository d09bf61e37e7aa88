use Rattle.std.proofs.Common.{ℕ, length, take, drop, ap, ◌∙◌, subst, arith}
use Rattle.std.proofs.lemmas.Slice.{between_to_end}
use borrow.Author.Tests.{ltb-true}
use Rattle.cells.specs.Cells.{Cell, behind_blanks, ended}
use Rattle.cells.specs.code.Found.{Is}
use Rattle.cells.proofs.Texts.{quotes_front}
use Rattle.cells.proofs.OneCell.{quoted_closed, quoted_open}
use Rattle.cells.proofs.quoted.Goals as goal
use Rattle.cells.proofs.quoted.Goals.{in_default-via-then-closing-lt1, in_default-via-else-closing-lt1+in_default-1}

pub split_at-requires : goal.split_at-requires
split_at-requires c = let f = (quotes_front c.args.text.now).1 in omega (arith, c.closing_quote.ensures)

pub returns-in-34 : goal.returns-in-34
returns-in-34 c =
    let t = c.args.text.now in
    let n = c.closing_quote.ensures in
    let closing = c.split_at.result.1.now in
    let inside = c.split_at.ensures.front ∙ ap (λ (k : ℕ). take k t) n ∙ (quotes_front t).0 in
    let back = c.split_at.ensures.back ∙ ap (λ (k : ℕ). drop k t) n in
    let rest = c.after_blanks.ensures ∙ ap behind_blanks (between_to_end closing 1 (length closing) (omega arith)) in
    let P : Cell → Type 0 = λ x. Is x c.ended.result in
    subst P (ap (ended c.split_at.result.0.now) rest ∙ quoted_closed t inside back (omega arith) (omega arith)) c.ended.ensures

pub returns-in_default : goal.returns-in_default
returns-in_default c =
    let t = c.args.text.now in
    let n = c.closing_quote.ensures in
    let inside = c.split_at.ensures.front ∙ ap (λ (k : ℕ). take k t) n ∙ (quotes_front t).0 in
    let back = c.split_at.ensures.back ∙ ap (λ (k : ℕ). drop k t) n in
    quoted_open t inside back
    (λ a b. elim c.in_default.branch [ in_default-via-then-closing-lt1 w ↦ omega (arith, ltb-true) | in_default-via-else-closing-lt1+in_default-1 w ↦ omega arith ])
