-- A key is blank exactly if it is one byte over and over: whichever byte, at any length, and with two places that differ it isn't.
use mathlib.Core.Path.{◌≡◌, refl, sym, ap, ◌∙◌}
use mathlib.Core.Bool.{Bool, true, false}
use mathlib.Core.List.{List, [], ◌∷◌}
use Prim.Native.Nat.{ℕ, zero, suc, ◌<◌}
use native.Mathlib.Omega.{arith}
use lib.ListN.{length, get_or, replicate, get_or-replicate}
use borrow.Author.Tests.{eq-eqb}
use Rattle.runs.specs.All.{all}
use Rattle.runs.proofs.All.{all_are, all_replicate}
use Rattle.cipher_numbers.specs.Blank.{blank}

pub repeated_blank : (n b : ℕ) → blank (replicate n b) ≡ true
unfolding blank
repeated_blank zero b = refl
repeated_blank (suc n) b = all_replicate b n

pub blank_repeated : (key : List ℕ) → blank key ≡ true → key ≡ replicate (length key) (get_or key 0 0)
unfolding blank
blank_repeated [] e = refl
blank_repeated (x ∷ xs) e = ap (λ (l : List ℕ). x ∷ l) (all_are x xs e)

pub two_differ : (key : List ℕ) (i j : ℕ) → i < length key → j < length key → (get_or key i 0 ≡ get_or key j 0 → ⊥) → blank key ≡ false
two_differ key i j hi hj z = go (blank key) refl
  where
    at : (k : ℕ) → k < length key → blank key ≡ true → get_or key k 0 ≡ get_or key 0 0
    at k h e = ap (λ (l : List ℕ). get_or l k 0) (blank_repeated key e) ∙ get_or-replicate (length key) k (get_or key 0 0) 0 h

    go : (t : Bool) → blank key ≡ t → blank key ≡ false
    go true e = absurd (z (at i hi e ∙ sym (at j hj e)))
    go false e = e

-- ---- as the code finds it
pub none_blank : (key : List ℕ) → length key ≡ 0 → true ≡ blank key
unfolding blank
none_blank [] h = refl
none_blank (x ∷ xs) h = absurd (omega arith)

pub by_the_first : (key : List ℕ) → (length key ≡ 0 → ⊥) → all (get_or key 0 0) key ≡ blank key
unfolding blank
by_the_first [] z = absurd (z refl)
by_the_first (x ∷ xs) z = rw (eq-eqb x x refl)
