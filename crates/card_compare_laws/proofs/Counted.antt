-- Of how many in a list a test holds.
use mathlib.Core.Path.{◌≡◌, refl, sym, ap₂}
use mathlib.Core.Bool.{Bool, true, false, ◌||◌}
use mathlib.Core.List.{List, [], ◌∷◌}
use Prim.Native.Nat.{ℕ, suc, ◌+◌, ◌≤◌}
use native.Mathlib.Omega.{arith}
use lib.Dec.{ltb}
use lib.ListN.{length}
use borrow.Author.Tests.{lt-ltb}
use Rattle.laws.specs.Choice.{choose}
use Rattle.laws.proofs.Test.{and_left, and_right}
use Rattle.card_slots.specs.Card.{every, some}
use Rattle.card_compare_laws.specs.Records.{how_many}

module _ {A : Type 0} where
  pub some_many : (t : A → Bool) (xs : List A) → some t xs ≡ ltb 0 (how_many t xs)
  some_many t [] = refl
  some_many t (x ∷ xs) = by_test (t x) (some_many t xs)
    where
      by_test : (b : Bool) → some t xs ≡ ltb 0 (how_many t xs) → (b || some t xs) ≡ ltb 0 (choose b (suc (how_many t xs)) (how_many t xs))
      by_test true u = sym (lt-ltb 0 (suc (how_many t xs)) (omega arith))
      by_test false u = u

  pub many_or : (t u : A → Bool) (xs : List A) → how_many (λ x. t x || u x) xs ≤ how_many t xs + how_many u xs
  many_or t u [] = omega arith
  many_or t u (x ∷ xs) = by_tests (t x) (u x) (many_or t u xs)
    where
      by_tests : (b c : Bool) → how_many (λ x. t x || u x) xs ≤ how_many t xs + how_many u xs
          → choose (b || c) (suc (how_many (λ x. t x || u x) xs)) (how_many (λ x. t x || u x) xs)
          ≤ choose b (suc (how_many t xs)) (how_many t xs) + choose c (suc (how_many u xs)) (how_many u xs)
      by_tests true true h = omega arith
      by_tests true false h = omega arith
      by_tests false true h = omega arith
      by_tests false false h = h

  pub many_all : (t : A → Bool) (xs : List A) → every t xs ≡ true → how_many t xs ≡ length xs
  many_all t [] e = refl
  many_all t (x ∷ xs) e =
      ap₂ (λ (b : Bool) (n : ℕ). choose b (suc n) n) (and_left (t x) _ e) (many_all t xs (and_right (t x) _ e))

  pub many_none : (xs : List A) → how_many (λ x. false) xs ≡ 0
  many_none [] = refl
  many_none (x ∷ xs) = many_none xs
