use Rattle.std.proofs.Common.{◌≡◌, ℕ, ◌+◌, ◌-◌, suc, length, take, drop, ap, ◌∙◌, arith}
use Rattle.std.proofs.lemmas.Slice.{between_to_end}
use Rattle.cells.proofs.Texts.{part_is}
use Rattle.card_table.specs.code.Line.{line_of}
use Rattle.card_table.proofs.Lines.{line_within, line_taken}
use Rattle.card_table.proofs.reading.first_line.Goals as goal

pub overflow_add-end : goal.overflow_add-end
overflow_add-end c =
    let w = line_within c.args.text.now in
    omega (arith, c.line_feed-end.ensures)

pub returns-clause-line : goal.returns-clause-line
returns-clause-line c =
    let t = c.args.text.now in
    let end = c.line_feed-end.result in
    let n : end - 0 ≡ end = omega arith in
    let w = line_within t in
    c.part-line.ensures ∙ part_is t 0 end (omega (arith, c.line_feed-end.ensures)) ∙ ap (λ (k : ℕ). take k t) n
    ∙ line_taken t end c.line_feed-end.ensures

pub returns-clause-rest : goal.returns-clause-rest
returns-clause-rest c =
    let t = c.args.text.now in
    let end = c.line_feed-end.result in
    let n : end + 1 ≡ suc (length (line_of t)) = omega (arith, c.line_feed-end.ensures) in
    c.part-rest.ensures ∙ part_is t (end + 1) (length t) (omega arith) ∙ between_to_end t (end + 1) (length t) (omega arith) ∙ ap (λ (k : ℕ). drop k t) n
