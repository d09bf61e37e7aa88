use Rattle.std.proofs.Common.{ℕ, take, drop, ap, ◌∙◌, arith}
use Rattle.cells.specs.Cells.{before_blanks, bare}
use Rattle.cells.proofs.Texts.{plain_front}
use Rattle.cells.proofs.bare.Goals as goal

pub split_at-requires : goal.split_at-requires
split_at-requires c = let f = (plain_front c.args.text.now).1 in omega (arith, c.comma_or_quote.ensures)

pub returns : goal.returns
unfolding bare
returns c =
    let t = c.args.text.now in
    let n = c.comma_or_quote.ensures in
    let front = c.before_blanks.ensures ∙ ap before_blanks (c.split_at.ensures.front ∙ ap (λ (k : ℕ). take k t) n ∙ (plain_front t).0) in
    let back = c.split_at.ensures.back ∙ ap (λ (k : ℕ). drop k t) n in
    rw (← front, ← back) c.ended.ensures
