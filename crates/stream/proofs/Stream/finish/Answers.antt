use mathlib.Core.Path.{sym, ◌∙◌}
use Rattle.refusals.proofs.Numbers.{done, refused}
use Rattle.stream.proofs.Outcomes.{finish_refused, finish_accepted}
use Rattle.stream.proofs.Stream.finish.Goals as goal

pub returns-then-is_ok : goal.returns-then-is_ok
returns-then-is_ok c =
    record { returned = finish_accepted _ _ c.finish_refusal-answer.ensures (done c.finish_refusal-answer.result (sym c.is_ok.ensures.value ∙ c.if-is_ok.true)) }

pub returns-else-is_ok : goal.returns-else-is_ok
returns-else-is_ok c =
    record { returned = finish_refused _ _ c.finish_refusal-answer.ensures (refused c.finish_refusal-answer.result (sym c.is_ok.ensures.value ∙ c.if-is_ok.false)) }
