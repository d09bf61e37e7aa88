use mathlib.Core.Path.{◌≡◌, sym, ◌∙◌}
use Rattle.refusals.specs.Refusals as refusal
use Rattle.refusals.proofs.Numbers.{not_done}
use Rattle.seal.specs.Calls.{check_refusal}
use Rattle.seal.proofs.Outcomes.{accepted_check, check_refused, check_done}
use Rattle.seal.proofs.Seal.check.Goals as goal

pub returns-in-Err : goal.returns-in-Err
returns-in-Err c = record { returned = c.checked_as.ensures ∙ check_refused _ _ _ c.in-Err.ensures (not_done c.in-Err.refusal) }

pub sealed-seal-requires : goal.sealed-seal-requires
sealed-seal-requires c =
    let done : check_refusal c.args.self ≡ refusal.done = sym c.in_default.ensures in
    accepted_check c.args.self c.args.given.now done

pub returns : goal.returns
returns c =
    let done : check_refusal c.args.self ≡ refusal.done = sym c.in_default.ensures in
    record { returned = c.checked_as-2.ensures ∙ check_done _ _ done _ _ c.sealed-seal.ensures c.is_seal-yes.ensures }
