use mathlib.Core.Path.{◌≡◌}
use Rattle.hierocrypt3_keys.specs.Keys.{Z}
use Rattle.hierocrypt3_keys.proofs.Laid.{Laid}
use Rattle.hierocrypt3_keys.proofs.round_keys.Given as goal

abbrev pub invariant-loop-t : goal.invariant-loop-t
invariant-loop-t l = (l.z ≡ Z l.key l.t) × Laid l.key l.t l.keys
