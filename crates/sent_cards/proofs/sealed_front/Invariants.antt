use mathlib.Core.Path.{◌≡◌}
use mathlib.Core.List.{[]}
use Prim.Native.Nat.{◌≤◌}
use lib.ListN.{length}
use Rattle.cipher.specs.declared.Schedule.{Schedule}
use Rattle.sent_cards.proofs.Reached.{reached}
use Rattle.sent_cards.proofs.Fronts.{Looked}
use Rattle.sent_cards.proofs.sealed_front.Given as goal

-- whichever schedule the seal was started under
abbrev pub invariant-loop-n : goal.invariant-loop-n
invariant-loop-n l = (length l.file ≤ 4128) × ((s : Schedule) → l.initial.seal ≡ reached s [] → Looked s l.file l.seal l.n)
