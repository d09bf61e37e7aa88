use Rattle.std.proofs.Common.{◌≤◌, drop}
use Rattle.wording.specs.Filled.{filled_from}
use Rattle.wording.proofs.Adding.{Left}
use Rattle.wording.proofs.Text.fill.Given as goal

abbrev pub invariant-loop-c : goal.invariant-loop-c
invariant-loop-c l =
    (l.k ≤ l.c-index)
    × Left (filled_from l.numbers 0 l.text) l.initial.self (filled_from l.numbers l.k (drop l.c-index l.text)) l.self
