-- Slots by a test: of every one, the first of which it holds, and what a slot set anew changes.
use mathlib.Core.Path.{◌≡◌, refl, sym, ap, ap₂, ◌∙◌}
use mathlib.Core.Bool.{Bool, true, false, ◌&&◌}
use mathlib.Core.List.{List, [], ◌∷◌}
use Prim.Native.Nat.{ℕ, zero, suc, ◌≤◌, ◌<◌}
use native.Mathlib.Omega.{arith}
use native.Mathlib.Nat.{le_of_suc-le-suc, not-suc-le-zero}
use lib.ListN.{length, get_or, set}
use Rattle.laws.specs.Choice.{choose}
use Rattle.laws.proofs.Test.{and_left, and_right}
use Rattle.card_slots.specs.Card.{every}
use Rattle.card_slots.specs.Find.{place}

module _ (t : List ℕ → Bool) where
  -- ---- of every slot
  pub every_set : (ss : List (List ℕ)) (i : ℕ) (r : List ℕ) → every t ss ≡ true → t r ≡ true → every t (set ss i r) ≡ true
  every_set [] i r e f = refl
  every_set (s ∷ ss) zero r e f = ap₂ ◌&&◌ f (and_right (t s) (every t ss) e)
  every_set (s ∷ ss) (suc i) r e f = ap₂ ◌&&◌ (and_left (t s) (every t ss) e) (every_set ss i r (and_right (t s) (every t ss) e) f)

  -- ---- the first of which it holds
  pub place-true : (ss : List (List ℕ)) → place t ss < length ss → t (get_or ss (place t ss) []) ≡ true
  place-true [] h = absurd (not-suc-le-zero h)
  place-true (s ∷ ss) h = by_test (t s) refl h (place-true ss)
    where
      by_test : (b : Bool) → t s ≡ b → choose b 0 (suc (place t ss)) < suc (length ss) → (place t ss < length ss → t (get_or ss (place t ss) []) ≡ true)
          → t (get_or (s ∷ ss) (choose b 0 (suc (place t ss))) []) ≡ true
      by_test true e m u = e
      by_test false e m u = u (le_of_suc-le-suc m)

  pub place_least : (ss : List (List ℕ)) (i : ℕ) → t (get_or ss i []) ≡ true → i < length ss → place t ss ≤ i
  place_least [] i e h = absurd (not-suc-le-zero h)
  place_least (s ∷ ss) zero e h = let z : choose (t s) 0 (suc (place t ss)) ≡ 0 = rw e in omega arith
  place_least (s ∷ ss) (suc i) e h = by_test (t s) (place_least ss i e (le_of_suc-le-suc h))
    where
      by_test : (b : Bool) → place t ss ≤ i → choose b 0 (suc (place t ss)) ≤ suc i
      by_test true u = omega arith
      by_test false u = omega arith

  -- set at the first place, or before it
  pub place_set : (ss : List (List ℕ)) (i : ℕ) (r : List ℕ) → i < length ss → i ≤ place t ss → t r ≡ true → place t (set ss i r) ≡ i
  place_set [] i r h l e = absurd (not-suc-le-zero h)
  place_set (s ∷ ss) zero r h l e = ap (λ (b : Bool). choose b 0 (suc (place t ss))) e
  place_set (s ∷ ss) (suc i) r h l e = by_test (t s) l (λ m. place_set ss i r (le_of_suc-le-suc h) m e)
    where
      by_test : (b : Bool) → suc i ≤ choose b 0 (suc (place t ss)) → (i ≤ place t ss → place t (set ss i r) ≡ i)
          → choose b 0 (suc (place t (set ss i r))) ≡ suc i
      by_test true m u = absurd (not-suc-le-zero m)
      by_test false m u = ap suc (u (le_of_suc-le-suc m))

  -- set over a slot of which it doesn't hold, nor of the new one
  pub place_other : (ss : List (List ℕ)) (i : ℕ) (r : List ℕ) → t r ≡ false → t (get_or ss i []) ≡ false → place t (set ss i r) ≡ place t ss
  place_other [] i r e f = refl
  place_other (s ∷ ss) zero r e f =
      ap (λ (b : Bool). choose b 0 (suc (place t ss))) e ∙ sym (ap (λ (b : Bool). choose b 0 (suc (place t ss))) f)
  place_other (s ∷ ss) (suc i) r e f = ap (λ (n : ℕ). choose (t s) 0 (suc n)) (place_other ss i r e f)
