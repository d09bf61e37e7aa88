-- What stands in an `each`, an `each` mapped, and one in which a single number has anything.
use mathlib.Core.Path.{◌≡◌, refl, sym, ap, ◌∙◌, subst}
use mathlib.Core.Logic.{⊎_elim}
use mathlib.Core.List.Memᴰ
use mathlib.Core.List.{List, [], ◌++◌, map, map-append, append-nil, Memᴰ}
use Prim.Native.Nat.{ℕ, zero, suc, ◌+◌, ◌-◌, ◌≤◌, ◌<◌}
use native.Mathlib.Omega.{arith}
use native.Mathlib.Decide.{ℕ_discrete}
use Rattle.card_compare.specs.Compare.{each}
use Rattle.card_compare.proofs.Each.{each_next, each_nothing}

module _ {A : Type 0} (f : ℕ → List A) where
  pub from_each : {x : A} (k n : ℕ) → Memᴰ x (each f k n) → (j : ℕ) × Memᴰ x (f j)
  from_each k zero m = absurd (Memᴰ.not-nil m)
  from_each k (suc n) m = ⊎_elim (λ u. (k, u)) (from_each (suc k) n) (Memᴰ.append_cases (f k) m)

  pub in_each : {x : A} (k n j : ℕ) → k ≤ j → j < k + n → Memᴰ x (f j) → Memᴰ x (each f k n)
  in_each k zero j l u m = absurd (omega arith)
  in_each {x} k (suc n) j l u m = by_test (ℕ_discrete j k) (λ h. in_each (suc k) n j h (omega arith) m)
    where
      by_test : Dec (j ≡ k) → (suc k ≤ j → Memᴰ x (each f (suc k) n)) → Memᴰ x (each f k (suc n))
      by_test (yes e) r = Memᴰ.append_left (each f (suc k) n) (subst (λ (i : ℕ). Memᴰ x (f i)) e m)
      by_test (no d) r = Memᴰ.append_right (f k) (r (omega arith))

  pub each_map : {B : Type 0} (g : A → B) (k n : ℕ) → each (λ j. map g (f j)) k n ≡ map g (each f k n)
  each_map g k zero = refl
  each_map g k (suc n) = ap (λ (l : List _). map g (f k) ++ l) (each_map g (suc k) n) ∙ sym (map-append g (f k) (each f (suc k) n))

  pub each_only : (k n x : ℕ) → k ≤ x → x < k + n → ((j : ℕ) → (x ≡ j → ⊥) → f j ≡ []) → each f k n ≡ f x
  each_only k n x l u h =
      let e : n ≡ k + n - k = omega arith in
      ap (each f k) e
      ∙ each_next f k x (k + n) l u (λ j m v. h j (λ z. omega arith))
      ∙ ap (λ (r : List A). f x ++ r) (each_nothing f (x + 1) (k + n - (x + 1)) (λ j m v. h j (λ z. omega arith)))
      ∙ append-nil (f x)
