use mathlib.Core.Path.{◌≡◌}
use mathlib.Core.Bool.{Bool}
use mathlib.Core.List.{List}
use Prim.Native.Nat.{ℕ, ◌-◌, ◌≤◌}
use lib.ListN.{length}
use Rattle.cipher.specs.Calls.{set_up}
use Rattle.sent_cards.specs.Sent.{sealed, first, sealed_by}
use Rattle.sent_cards.proofs.sealed_by.Given as goal

abbrev isSealed : (key file : List ℕ) → ℕ → Bool
isSealed key file c = sealed (set_up c key).schedule file

abbrev pub invariant-loop-number : goal.invariant-loop-number
invariant-loop-number l = (32 ≤ length l.file) × (length l.file ≤ 4128) × (sealed_by l.key l.file ≡ first (isSealed l.key l.file) l.number (10 - l.number))
