use Rattle.wording.proofs.Adding.{adds_as, adds_on, adds_nothing}
use Rattle.card_table.proofs.WrittenLines.{no_line, whole_line}
use Rattle.card_table.proofs.writing.line.Goals as goal

pub returns-then-f-eq0 : goal.returns-then-f-eq0
returns-then-f-eq0 c = λ s h. adds_as (no_line s c.args.f h c.if-f-eq0.true) (adds_nothing c.args.out.now)

pub returns : goal.returns
returns c =
    λ s h. adds_as (whole_line s c.args.f h c.if-f-eq0.false) (adds_on (adds_on c.fill.ensures c.kind.ensures) c.fill-2.ensures)
