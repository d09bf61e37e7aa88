use mathlib.Core.Path.{◌≡◌}
use mathlib.Core.Bool.{Bool}
use mathlib.Core.List.{List}
use Prim.Native.Nat.{ℕ}
use Rattle.card_slots.specs.Card.{slots}
use Rattle.card_slots.specs.Find.{place}
use Rattle.card_slots.proofs.Slots.{Looked}
use Rattle.card_slots.proofs.search.first.Given as goal

-- no slot before i passes
abbrev pub invariant-loop-i : goal.invariant-loop-i
invariant-loop-i g l =
    goal.F-IsAlwaysCallable g l.passes
    × ((t : List ℕ → Bool) → ((s : _) (b : Bool) → goal.F-post g l.passes s b → b ≡ t s.bytes.now) → Looked t l.card (place t (slots l.card)) l.n l.i)
