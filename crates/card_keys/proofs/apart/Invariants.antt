use Prim.Native.Nat.{ℕ, ◌+◌, ◌≤◌, ◌<◌}
use Rattle.card_keys.specs.code.Keys.{Neighbours}
use Rattle.card_keys.proofs.apart.Given as goal

-- no two neighbours before i have the same pair
abbrev pub invariant-loop-i : goal.invariant-loop-i
invariant-loop-i l = (1 ≤ l.i) × ((u : ℕ) → u + 1 < l.i → Neighbours l.keys u → ⊥)
