-- The first number of which a test holds, as a loop finds it: k is looked at, and the numbers go up to m.
use mathlib.Core.Path.{◌≡◌, ap}
use mathlib.Core.Bool.{Bool, true, false}
use Prim.Native.Nat.{ℕ, suc, ◌+◌, ◌-◌, ◌≤◌, ◌<◌}
use native.Mathlib.Omega.{arith}
use native.Mathlib.Numerals.{add-one}
use Rattle.std.specs.Prelude.{None, Some}
use Rattle.sent_cards.specs.Sent.{first}

module _ (t : ℕ → Bool) (k m : ℕ) where
  one_more : k < m → first t k (m - k) ≡ first t k (suc (m - (k + 1)))
  one_more h = let e : m - k ≡ suc (m - (k + 1)) = omega arith in ap (first t k) e

  pub first_here : k < m → t k ≡ true → Some k ≡ first t k (m - k)
  first_here h e = rw (one_more h, e)

  pub first_later : k < m → t k ≡ false → first t k (m - k) ≡ first t (k + 1) (m - (k + 1))
  first_later h e = rw (one_more h, e, add-one)

  pub first_none : m ≤ k → None ≡ first t k (m - k)
  first_none h = let e : 0 ≡ m - k = omega arith in ap (first t k) e
