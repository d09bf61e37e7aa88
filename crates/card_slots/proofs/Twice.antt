-- Tests of every slot and of some slot by their places, and the pairs on a card: one stands twice exactly if a later slot has it again.
use mathlib.Core.Path.{◌≡◌, refl, sym, ap, ap₂, ◌∙◌}
use mathlib.Core.Bool.{Bool, true, false, not, ◌&&◌, ◌||◌, and-true, and-false, true≢false}
use mathlib.Core.List.{List, [], ◌∷◌, map}
use Prim.Native.Nat.{ℕ, zero, suc, ◌<◌}
use native.Mathlib.Omega.{arith}
use native.Mathlib.Nat.{le_of_suc-le-suc, not-suc-le-zero}
use lib.Dec.{ltb, leb-suc-suc}
use lib.ListN.{length, get_or}
use borrow.Author.Tests.{lt-ltb}
use Rattle.laws.specs.Choice.{choose}
use Rattle.laws.proofs.Test.{and_left, and_right}
use Rattle.card_slots.specs.Slot.{empty, pair_of}
use Rattle.card_slots.specs.Card.{every, some, same_pair, filled, pairs, none_twice}
use Rattle.card_slots.specs.Find.{place, named}

-- ---- every and some
pub every_some : {A : Type 0} (t : A → Bool) (xs : List A) → every t xs ≡ not (some (λ x. not (t x)) xs)
every_some t [] = refl
every_some t (x ∷ xs) = by_test (t x) (every_some t xs)
  where
    by_test : (b : Bool) → every t xs ≡ not (some (λ x. not (t x)) xs) → (b && every t xs) ≡ not (not b || some (λ x. not (t x)) xs)
    by_test true u = u
    by_test false u = refl

-- it holds of some slot exactly if it has a place
pub some-place : (t : List ℕ → Bool) (ss : List (List ℕ)) → some t ss ≡ ltb (place t ss) (length ss)
some-place t [] = refl
some-place t (s ∷ ss) = by_test (t s) (some-place t ss)
  where
    by_test : (b : Bool) → some t ss ≡ ltb (place t ss) (length ss) → (b || some t ss) ≡ ltb (choose b 0 (suc (place t ss))) (suc (length ss))
    by_test true u = sym (lt-ltb 0 (suc (length ss)) (omega arith))
    by_test false u = u ∙ sym (leb-suc-suc (suc (place t ss)) (length ss))

-- by the number of a slot
pub some_at : (t : List ℕ → Bool) (ss : List (List ℕ)) (i : ℕ) → i < length ss → t (get_or ss i []) ≡ true → some t ss ≡ true
some_at t [] i h e = absurd (not-suc-le-zero h)
some_at t (s ∷ ss) zero h e = rw e
some_at t (s ∷ ss) (suc i) h e = by_test (t s) (some_at t ss i (le_of_suc-le-suc h) e)
  where
    by_test : (b : Bool) → some t ss ≡ true → (b || some t ss) ≡ true
    by_test true u = refl
    by_test false u = u

pub at_some : (t : List ℕ → Bool) (ss : List (List ℕ)) → some t ss ≡ true → (i : ℕ) × (i < length ss) × (t (get_or ss i []) ≡ true)
at_some t [] e = absurd (true≢false (sym e))
at_some t (s ∷ ss) e = by_test (t s) refl e (at_some t ss)
  where
    by_test : (b : Bool) → t s ≡ b → (b || some t ss) ≡ true → (some t ss ≡ true → (i : ℕ) × (i < length ss) × (t (get_or ss i []) ≡ true))
        → (i : ℕ) × (i < suc (length ss)) × (t (get_or (s ∷ ss) i []) ≡ true)
    by_test true f u r = (0, omega arith, f)
    by_test false f u r = let w = r u in (suc w.0, omega (arith, w.1), w.2)

pub every_at : (t : List ℕ → Bool) (ss : List (List ℕ)) (i : ℕ) → every t ss ≡ true → i < length ss → t (get_or ss i []) ≡ true
every_at t [] i e h = absurd (not-suc-le-zero h)
every_at t (s ∷ ss) zero e h = and_left (t s) (every t ss) e
every_at t (s ∷ ss) (suc i) e h = every_at t ss i (and_right (t s) (every t ss) e) (le_of_suc-le-suc h)

-- ---- the pairs
pub some-named : (p : ℕ × ℕ) (ss : List (List ℕ)) → some (named p) ss ≡ some (same_pair p) (pairs ss)
unfolding named
some-named p [] = refl
some-named p (s ∷ ss) = by_empty (empty s) (some-named p ss)
  where
    by_empty : (b : Bool) → some (named p) ss ≡ some (same_pair p) (pairs ss)
        → (same_pair p (pair_of s) && not b || some (named p) ss) ≡ some (same_pair p) (map pair_of (choose b (filled ss) (s ∷ filled ss)))
    by_empty true u = ap (λ (b : Bool). b || some (named p) ss) (and-false (same_pair p (pair_of s))) ∙ u
    by_empty false u = ap₂ ◌||◌ (and-true (same_pair p (pair_of s))) u

-- the first slot's pair stands in a later one too
abbrev pub again : List (List ℕ) → Bool
again [] = false
again (s ∷ ss) = not (empty s) && some (named (pair_of s)) ss

pub twice_cons : (s : List ℕ) (ss : List (List ℕ)) → none_twice (pairs (s ∷ ss)) ≡ (not (again (s ∷ ss)) && none_twice (pairs ss))
twice_cons s ss = by_empty (empty s)
  where
    by_empty : (b : Bool)
        → none_twice (map pair_of (choose b (filled ss) (s ∷ filled ss))) ≡ (not (not b && some (named (pair_of s)) ss) && none_twice (pairs ss))
    by_empty true = refl
    by_empty false = ap (λ (b : Bool). not b && none_twice (pairs ss)) (sym (some-named (pair_of s) ss))
