-- What depends on the key's length: a key has 16, 24 or 32 bytes.
use mathlib.Core.Path.{◌≡◌, sym, ap}
use mathlib.Core.Bool.{Bool}
use mathlib.Core.Logic.{◌⊎◌, inl, inr, ⊎_elim}
use Prim.Native.Nat.{ℕ, ◌+◌, ◌≤◌, ◌<◌}
use native.Mathlib.Decide.{ℕ_discrete}
use native.Mathlib.Omega.{arith}
use lib.Dec.{leb}
use borrow.Author.Tests.{le-leb, lt-leb}
use Rattle.laws.specs.Choice.{choose}
use Rattle.words.specs.KeyLength.{KeyLength}
use Rattle.hierocrypt3_keys.specs.Keys.{t_turn}

pub key_lengths : (len : ℕ) → KeyLength len → (len ≡ 16) ⊎ ((len ≡ 24) ⊎ (len ≡ 32))
key_lengths len h = at (ℕ_discrete len 16) (ℕ_discrete len 24)
  where
    at : Dec (len ≡ 16) → Dec (len ≡ 24) → (len ≡ 16) ⊎ ((len ≡ 24) ⊎ (len ≡ 32))
    at (yes p) d = inl p
    at (no q) (yes p) = inr (inl p)
    at (no q) (no r) = inr (inr (omega arith))

pub t_turn_early : (len : ℕ) → KeyLength len → (len ≡ 32 → ⊥) → 4 ≡ t_turn len
t_turn_early len h q =
    ⊎_elim (λ e. ap t_turn (sym e)) (λ o. ⊎_elim (λ e. ap t_turn (sym e)) (λ e. absurd (q e)) o) (key_lengths len h)

-- step t + 1 stands before or behind t_turn
module _ {A : Type 0} (t m : ℕ) (x y : A) where
  pub plaintext_side_lem : t < m → x ≡ choose (leb (t + 1) m) x y
  plaintext_side_lem h = sym (ap (λ (b : Bool). choose b x y) (le-leb (t + 1) m (omega arith)))

  pub ciphertext_side_lem : m ≤ t → y ≡ choose (leb (t + 1) m) x y
  ciphertext_side_lem h = sym (ap (λ (b : Bool). choose b x y) (lt-leb (t + 1) m (omega arith)))
