use mathlib.Core.Path.{◌≡◌, sym, ap₂, ◌∙◌}
use mathlib.Core.Bool.{Bool}
use mathlib.Core.List.{List}
use Prim.Native.Nat.{ℕ}
use borrow.Author.Tests.{not-true, not-false}
use Rattle.spelling.specs.Word.{spells}
use Rattle.cells.specs.Cells.{cells, text_of}
use Rattle.card_table.specs.Table.{header}
use Rattle.card_table.proofs.Headers.{spells_on, quote_in_header, not_six, by_cells}
use Rattle.card_table.proofs.reading.is_header.Goals as goal

-- what the calls said of a cell
said : (line : List ℕ) (k : ℕ) {one two : List ℕ} {b v : Bool} → one ≡ text_of (cells line) k → two ≡ text_of (cells header) k → b ≡ spells one two → b ≡ v
    → spells (text_of (cells line) k) (text_of (cells header) k) ≡ v
said line k e f g h = sym (ap₂ spells e f) ∙ sym g ∙ h

pub returns-then-not-l : goal.returns-then-not-l
returns-then-not-l c = quote_in_header c.args.line.now (sym c.count-l.ensures.good ∙ not-true _ c.if-not-l.true)

pub returns-then-l-ne6 : goal.returns-then-l-ne6
returns-then-l-ne6 c =
    not_six c.args.line.now (sym c.count-l.ensures.good ∙ not-false _ c.if-not-l.false)
    (λ z. c.if-l-ne6.true (c.count-l.ensures.cells ∙ z))

pub loop-k-init : goal.loop-k-init
loop-k-init c = by_cells c.args.line.now (sym c.count-l.ensures.good ∙ not-false _ c.if-not-l.false)
    (sym c.count-l.ensures.cells ∙ c.if-l-ne6.false)

pub loop-k-preserved : goal.loop-k-preserved
loop-k-preserved c =
    let l = c.args.line.now in
    sym (spells_on l c.loop-k.k c.loop-k-test.true
    (said l c.loop-k.k c.text.ensures c.text-in-loop-k.ensures c.is.ensures c.if-not-is.false))
    ∙ c.loop-k.invariant
