-- The code's comparisons say what the definitions' say.
use mathlib.Core.Path.{◌≡◌, refl, sym}
use mathlib.Core.Bool.{Bool, true, false}
use Prim.Native.Nat.{ℕ, ◌+◌, ◌-◌, ◌*◌, ◌/◌, ◌%◌, ◌≤◌, ◌<◌}
use native.Mathlib.Omega.{arith}
use lib.Dec.{ltb}
use borrow.Author.Tests.{ltb-true, ltb-false, lt-ltb, le-ltb}
use Rattle.cbc.specs.Cbc.{completed}
use Rattle.pieces.specs.Pieces.{limit}

same_test : (a b c d : ℕ) → (a < b → c < d) → (b ≤ a → d ≤ c) → ltb a b ≡ ltb c d
same_test a b c d f g = at (ltb a b) refl
  where
    at : (t : Bool) → ltb a b ≡ t → t ≡ ltb c d
    at true e = sym (lt-ltb c d (f (ltb-true a b e)))
    at false e = sym (le-ltb c d (g (ltb-false a b e)))

-- ---- the room, counted in blocks
pub short_in_blocks : (count n room : ℕ) → ltb (room / 16) (n / 16 + (count % 16 + n % 16) / 16) ≡ ltb room (16 * completed count n)
short_in_blocks count n room =
    same_test (room / 16) (n / 16 + (count % 16 + n % 16) / 16) room (16 * completed count n) (λ l. omega arith) (λ l. omega arith)
