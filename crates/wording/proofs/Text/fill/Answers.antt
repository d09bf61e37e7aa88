use Rattle.std.proofs.Common.{◌≡◌, ◌+◌, ◌++◌, drop, get_or, arith}
use Rattle.std.proofs.lemmas.Grind.{common_steps}
use Rattle.wording.specs.Filled.{stands_for, filled_from, filled}
use Rattle.wording.proofs.Adding.{left_on, left_none}
use Rattle.wording.proofs.Filling.{uses_few, next_filled, none_filled}
use Rattle.wording.proofs.Text.fill.Goals as goal

pub overflow_add-k : goal.overflow_add-k
overflow_add-k c =
    let h = uses_few (get_or c.args.text.now c.loop-c.c-index 0) in
    omega (arith, c.uses-k.ensures)

pub loop-c-preserved : goal.loop-c-preserved
loop-c-preserved c =
    let numbers = c.args.numbers.now in
    let text = c.args.text.now in
    let k = c.loop-c.k in
    let i = c.loop-c.c-index in
    let h = uses_few (get_or text i 0) in
    let n : c.unwrap_or.result ≡ get_or numbers k 0 = grind (arith, common_steps) in
    let e : stands_for c.unwrap_or.result (get_or text i 0) ++ filled_from numbers (k + c.uses-k.result) (drop (i + 1) text) ≡ filled_from numbers k (drop i text)
    = rw (n, c.uses-k.ensures) (next_filled numbers text k i c.loop-c-test.true) in
    (omega (arith, c.uses-k.ensures), left_on c.loop-c.invariant.1 e c.character.ensures)

pub returns : goal.returns
unfolding filled
returns c = left_none c.loop-c.invariant.1 (none_filled c.args.numbers.now c.args.text.now c.loop-c.k c.loop-c.c-index c.loop-c-test.false)
