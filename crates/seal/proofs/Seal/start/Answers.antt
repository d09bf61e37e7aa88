use mathlib.Core.Path.{sym, ap, ◌∙◌}
use Rattle.refusals.specs.Refusals.{done}
use Rattle.refusals.proofs.Numbers.{not_done}
use Rattle.seal.specs.Calls.{started_as}
use Rattle.seal.proofs.Outcomes.{start_refused, start-done}
use Rattle.seal.proofs.Seal.start.Goals as goal

pub returns-in-Err : goal.returns-in-Err
returns-in-Err c = record { returned = c.not_started.ensures ∙ start_refused _ _ c.in-Err.ensures (not_done c.in-Err.refusal) }

pub returns : goal.returns
returns c = record { returned = ap (started_as done) c.fresh.ensures ∙ start-done _ (sym c.in_default.ensures) }
