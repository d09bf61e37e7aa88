use Rattle.std.proofs.Common.{ℕ, List, ◌<◌, length, sym, ap, ◌∙◌, arith, tests}
use Rattle.std.proofs.lemmas.Grind.{common_steps}
use Rattle.card_table.specs.Table as page
use Rattle.card_table.specs.Table.{Read, without_return, with_line, with_lines}
use Rattle.card_table.specs.code.Line.{line_of}
use Rattle.card_table.specs.code.State.{read_of}
use Rattle.card_table.proofs.Lines.{next_line, fewer}
use Rattle.card_table.proofs.Records.{with_line_few}
use Rattle.card_table.proofs.reading.rows.Goals as goal

pub loop-rest-preserved : goal.loop-rest-preserved
loop-rest-preserved g c =
    let t = c.loop-rest.rest.now in
    let some : 0 < length t = grind (arith, common_steps, tests) in
    let r = read_of c.loop-rest.read c.loop-rest.card in
    let few = with_line_few r c.without_return.result.now in
    let n = ap (λ (x : Read). x.records) c.row-read.ensures in
    let left = ap length c.first_line.ensures.rest in
    let less = fewer t some in (
      omega arith,
      omega arith,
      omega arith,
      omega arith,
      ap (λ (x : Read). with_lines x (page.lines c.first_line.result.1.now))
          (c.row-read.ensures ∙ ap (with_line r) (c.without_return.ensures ∙ ap without_return c.first_line.ensures.line))
          ∙ ap (λ (l : List ℕ). with_lines (with_line r (without_return (line_of t))) (page.lines l)) c.first_line.ensures.rest
          ∙ sym (ap (with_lines r) (next_line t some))
          ∙ c.loop-rest.invariant.4,
    )
