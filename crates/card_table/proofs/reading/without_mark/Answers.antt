use Rattle.std.proofs.Common.{length, ◌∙◌, arith}
use Rattle.std.proofs.lemmas.Slice.{between_to_end}
use Rattle.card_table.proofs.Headers.{mark, no_mark}
use Rattle.card_table.proofs.reading.without_mark.Goals as goal

pub returns-in-239 : goal.returns-in-239
returns-in-239 c =
    between_to_end c.args.table.now 3 (length c.args.table.now) (omega arith)
    ∙ mark c.args.table.now (omega arith) (omega arith) (omega arith) (omega arith)

pub returns-in_default : goal.returns-in_default
returns-in_default c = no_mark c.args.table.now (λ a b d e. omega arith)

pub returns-in_default-2 : goal.returns-in_default-2
returns-in_default-2 c = no_mark c.args.table.now (λ a b d e. omega arith)

pub returns-in_default-3 : goal.returns-in_default-3
returns-in_default-3 c = no_mark c.args.table.now (λ a b d e. omega arith)

pub returns-in_default-4 : goal.returns-in_default-4
returns-in_default-4 c = no_mark c.args.table.now (λ a b d e. omega arith)
