use native.Mathlib.Omega.{arith}
use mathlib.Core.Path.{sym, ◌∙◌}
use Rattle.refusals.proofs.Numbers.{not_done}
use Rattle.cipher_numbers.proofs.Legal.{legal_number, legal_length}
use Rattle.cipher.proofs.Answers.{set_up_refused, accepted_key, set_up-done}
use Rattle.cipher.proofs.set_up.Goals as goal

pub returns-in-Err : goal.returns-in-Err
returns-in-Err c = record { returned = c.refused.ensures ∙ set_up_refused _ _ _ c.in-Err.ensures (not_done c.in-Err.refusal) }

pub round_keys-requires : goal.round_keys-requires
round_keys-requires c = (accepted_key _ _ (sym c.in_default.ensures)).legal

pub returns : goal.returns
returns c =
    let ok = sym c.in_default.ensures in
    let legal = (accepted_key _ _ ok).legal in
    let n = legal_number _ _ legal in
    let l = (legal_length _ _ legal).1 in
    record { returned = set_up-done _ _ ok _ _ _ c.round_keys.ensures (omega arith) (omega arith) }
