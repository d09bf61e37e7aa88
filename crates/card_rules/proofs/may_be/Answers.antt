use Rattle.std.proofs.Common.{◌≡◌, ◌∙◌, sym, arith}
use Rattle.card_rules.proofs.LegalElse.{over_two_bytes, judged_filled}
use Rattle.card_rules.proofs.may_be.Goals as goal

pub returns-in-Ok : goal.returns-in-Ok
returns-in-Ok c =
    let held = c.with.ensures in
    let same : c.in-Ok.number ≡ c.args.value = c.in-Ok.ensures.1 in
    rw (← same) (judged_filled c.keeps_rules.ensures (omega (arith, held.climb)) ∙ held.decided)

pub returns-in-Err : goal.returns-in-Err
returns-in-Err c = sym (over_two_bytes c.args.field c.args.value (omega (arith, c.in-Err.ensures)))
