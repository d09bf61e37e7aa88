use Rattle.std.proofs.Common.{◌<◌, length, arith, tests}
use Rattle.std.proofs.lemmas.Grind.{common_steps}
use Rattle.spelling.proofs.Reading.{reading_start}
use Rattle.spelling.proofs.Answers.{whole_too_short_or_long}
use Rattle.spelling.proofs.number.whole.Goals as goal
use Rattle.spelling.proofs.number.whole.Goals.{then-is_empty-via-then-is_empty, then-is_empty-via-else-is_empty+then-text-gt9}

pub returns-then-is_empty : goal.returns-then-is_empty
returns-then-is_empty c =
    whole_too_short_or_long c.args.text.now
    (λ a b. elim c.then-is_empty.branch [ then-is_empty-via-then-is_empty w ↦ grind (arith, common_steps, tests) | then-is_empty-via-else-is_empty+then-text-gt9 w ↦ omega arith ])

pub loop-c-init : goal.loop-c-init
loop-c-init c =
    let some : 0 < length c.args.text.now = grind (arith, common_steps, tests) in
    reading_start c.args.text.now some (omega arith)
