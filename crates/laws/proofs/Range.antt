-- A number within a range, and one outside it.
use mathlib.Core.Path.{◌≡◌}
use mathlib.Core.Bool.{true, false}
use Prim.Native.Nat.{ℕ, ◌≤◌}
use lib.Dec.{leb}
use borrow.Author.Tests.{leb-true, le-leb}
use Rattle.laws.specs.Range.{within}
use Rattle.laws.proofs.Test.{and_left, and_right, fails}

module _ (low high n : ℕ) where
  pub inside : low ≤ n → n ≤ high → within low high n ≡ true
  inside a b = rw (le-leb low n a, le-leb n high b)

  pub not_below : within low high n ≡ true → low ≤ n
  not_below e = leb-true low n (and_left (leb low n) (leb n high) e)

  pub not_above : within low high n ≡ true → n ≤ high
  not_above e = leb-true n high (and_right (leb low n) (leb n high) e)

  pub outside : (low ≤ n → n ≤ high → ⊥) → within low high n ≡ false
  outside out = fails (within low high n) (λ e. out (not_below e) (not_above e))
