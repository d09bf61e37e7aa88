use mathlib.Core.Path.{◌≡◌, sym, ap, ◌∙◌}
use native.Mathlib.Omega.{arith}
use lib.ListN.{length}
use Rattle.refusals.specs.Refusals.{done}
use Rattle.refusals.proofs.Numbers.{not_done}
use Rattle.stream.specs.Calls.{start_refusal, started_as}
use Rattle.stream.specs.Numbered.{started_in_numbers}
use Rattle.stream.proofs.Outcomes.{start_refused, AcceptedStart, accepted_start, start-done, direction_small}
use Rattle.stream.proofs.Stream.start.Goals as goal

pub returns-in-Err : goal.returns-in-Err
returns-in-Err c = record { returned = ap started_in_numbers c.not_started.ensures ∙ start_refused _ _ _ _ c.in-Err.ensures (not_done c.in-Err.refusal) }

pub part-requires : goal.part-requires
part-requires c =
    let accepted : AcceptedStart c.args.schedule c.args.direction c.args.first.now = accepted_start c.args.schedule c.args.direction c.args.first.now (sym c.in_default.ensures) in
    let w = accepted.whole in omega arith

pub returns : goal.returns
returns c =
    let done_is : start_refusal c.args.schedule c.args.direction (length c.args.first.now) ≡ done = sym c.in_default.ensures in
    let accepted : AcceptedStart c.args.schedule c.args.direction c.args.first.now = accepted_start c.args.schedule c.args.direction c.args.first.now done_is in
    let l = direction_small _ accepted.directed in
    record { returned = ap (started_as done) c.fresh.ensures ∙ start-done _ _ _ done_is _ _ (omega arith) c.part.ensures.taken }
