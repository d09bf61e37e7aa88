-- What `changes` joins over all pairs, for any function of a pair in place of `change_at`.
use mathlib.Core.Path.{◌≡◌, ap, ◌∙◌}
use mathlib.Core.List.{List, [], map, Memᴰ}
use Prim.Native.Nat.{ℕ, ◌≤◌}
use native.Mathlib.Omega.{arith}
use Rattle.card_compare.specs.Compare.{each, last_recipe, last_segment}
use Rattle.card_compare.proofs.Each.{each_nothing}
use Rattle.card_compare.proofs.Numbers.{last_recipe_lem, last_segment_lem}
use Rattle.card_compare_laws.proofs.Each.{from_each, in_each, each_map, each_only}

abbrev pub over_all : {A : Type 0} → (ℕ × ℕ → List A) → List A
over_all f = each (λ r. each (λ s. f (r, s)) 1 last_segment) 1 last_recipe

abbrev pub InRange : ℕ × ℕ → Type 0
InRange p = ((1 ≤ p.0) × (p.0 ≤ 65535)) × ((1 ≤ p.1) × (p.1 ≤ 32))

module _ {A : Type 0} (f : ℕ × ℕ → List A) where
  abbrev at_recipe : ℕ → List A
  at_recipe r = each (λ s. f (r, s)) 1 last_segment

  pub from_all : {x : A} → Memᴰ x (over_all f) → (p : ℕ × ℕ) × Memᴰ x (f p)
  from_all m =
      let r = from_each at_recipe 1 last_recipe m in
      let s = from_each (λ s. f (r.0, s)) 1 last_segment r.1 in
      ((r.0, s.0), s.1)

  pub in_all : {x : A} (p : ℕ × ℕ) → InRange p → Memᴰ x (f p) → Memᴰ x (over_all f)
  in_all p h m =
      let r = last_recipe_lem in
      let s = last_segment_lem in
      in_each at_recipe 1 last_recipe p.0 (omega arith) (omega arith)
      (in_each (λ s. f (p.0, s)) 1 last_segment p.1 (omega arith) (omega arith) m)

  pub all_alike : (g : ℕ × ℕ → List A) → ((p : ℕ × ℕ) → f p ≡ g p) → over_all f ≡ over_all g
  all_alike g h = λ i. over_all (λ p. h p i)

  pub all_map : {B : Type 0} (g : A → B) → over_all (λ p. map g (f p)) ≡ map g (over_all f)
  all_map g = (λ i. each (λ r. each_map (λ s. f (r, s)) g 1 last_segment i) 1 last_recipe) ∙ each_map at_recipe g 1 last_recipe

  pub all_nothing : ((p : ℕ × ℕ) → f p ≡ []) → over_all f ≡ []
  all_nothing h = each_nothing at_recipe 1 last_recipe (λ r l u. each_nothing (λ s. f (r, s)) 1 last_segment (λ s m v. h (r, s)))

  pub all_only : (p : ℕ × ℕ) → InRange p → ((q : ℕ × ℕ) → (p ≡ q → ⊥) → f q ≡ []) → over_all f ≡ f p
  all_only p b h =
      let r = last_recipe_lem in
      let s = last_segment_lem in
      each_only at_recipe 1 last_recipe p.0 (omega arith) (omega arith)
      (λ j n. each_nothing (λ s. f (j, s)) 1 last_segment (λ s m v. h (j, s) (λ e. n (ap (λ (q : ℕ × ℕ). q.0) e))))
      ∙ each_only (λ s. f (p.0, s)) 1 last_segment p.1 (omega arith) (omega arith) (λ j n. h (p.0, j) (λ e. n (ap (λ (q : ℕ × ℕ). q.1) e)))
