use Rattle.std.proofs.Common.{◌-◌, ◌≤◌, length}
use Rattle.recipe_words.proofs.files.fill.Given as goal

abbrev pub invariant-loop-n : goal.invariant-loop-n
invariant-loop-n l = l.n ≤ length l.space

abbrev pub decreases-loop-n : goal.decreases-loop-n
decreases-loop-n l = length l.initial.space - l.n
