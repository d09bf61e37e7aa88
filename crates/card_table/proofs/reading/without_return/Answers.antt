use Rattle.std.proofs.Common.{◌≡◌, length, get_or, ◌-◌, arith}
use Rattle.card_table.proofs.Headers.{return_taken_off, no_return}
use Rattle.card_table.proofs.reading.without_return.Goals as goal

pub returns-in-13 : goal.returns-in-13
returns-in-13 c =
    let w = c.args.line.now in
    let e : get_or w (length w - 1) 0 ≡ 13 = omega arith in
    return_taken_off w e

pub returns-in_default : goal.returns-in_default
returns-in_default c = no_return c.args.line.now (λ a b. omega arith)

pub returns-in_default-2 : goal.returns-in_default-2
returns-in_default-2 c = no_return c.args.line.now (λ a b. omega arith)
