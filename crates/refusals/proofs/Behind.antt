-- A cause behind another needs looking at only where the other doesn't apply: a key's bytes only where its length is legal.
use mathlib.Core.Path.{◌≡◌, refl, ap}
use mathlib.Core.Bool.{Bool, true, false, not, ◌&&◌}
use mathlib.Core.List.{List, [], ◌∷◌}
use Prim.Native.Nat.{ℕ}
use Rattle.laws.specs.Choice.{choose}
use Rattle.refusals.specs.Refusals as refusal

looked_at : (l b : Bool) (n m : ℕ) (cs : List (Bool × ℕ)) → refusal.first ((not l, n) ∷ (l && b, m) ∷ cs) ≡ refusal.first ((not l, n) ∷ (b, m) ∷ cs)
looked_at true b n m cs = refl
looked_at false b n m cs = refl

pub set_up_looked : (c l b : Bool) → refusal.set_up_order c (not l) (l && b) ≡ refusal.set_up_order c (not l) b
set_up_looked c l b = ap (choose c refusal.unknown_cipher) (looked_at l b refusal.key_length refusal.blank_key [])

pub entry_looked : (c l k d b r : Bool) → refusal.entry_order c (not l) (l && k) d b r ≡ refusal.entry_order c (not l) k d b r
entry_looked c l k d b r =
    ap (choose c refusal.unknown_cipher)
    (looked_at l k refusal.key_length refusal.blank_key ((d, refusal.direction) ∷ (b, refusal.block_length) ∷ (r, refusal.no_room) ∷ []))
