-- A pair as one number, recipe times 256 and segment: the list in the order of these numbers, from one of them on.
use mathlib.Core.Path.{◌≡◌, refl, ap, ap₂, ◌∙◌}
use mathlib.Core.Bool.{false}
use mathlib.Core.List.{List, [], ◌++◌}
use Prim.Native.Nat.{ℕ, suc, ◌+◌, ◌-◌, ◌*◌, ◌/◌, ◌%◌, ◌≤◌, ◌<◌}
use native.Mathlib.Omega.{arith}
use Rattle.laws.proofs.Test.{fails}
use Rattle.card_slots.specs.Find.{found}
use Rattle.card_laws.proofs.Find.{found_recipe, found_segment}
use Rattle.card_compare.specs.Compare.{change_at, each, last_recipe, last_segment, changes}
use Rattle.card_compare.proofs.Each.{each_next, each_inside, each_nothing, each_rows}
use Rattle.card_compare.proofs.Marks.{change_none}

abbrev pub pair_at : ℕ → ℕ × ℕ
pair_at k = (k / 256, k % 256)

abbrev pub number_of : ℕ × ℕ → ℕ
number_of p = p.0 * 256 + p.1

unfoldable pub all_pairs : ℕ
all_pairs = 65536 * 256

pub all_pairs_lem : all_pairs ≡ 16777216
unfolding all_pairs
all_pairs_lem = refl

pub pair_number : (p : ℕ × ℕ) → p.1 < 256 → pair_at (number_of p) ≡ p
pair_number p h =
    let r : (p.0 * 256 + p.1) / 256 ≡ p.0 = omega arith in
    let s : (p.0 * 256 + p.1) % 256 ≡ p.1 = omega arith in
    ap₂ (λ (m n : ℕ). (m, n)) r s

-- ---- where no card has anything
not_found : (card : List ℕ) (p : ℕ × ℕ) → ((1 ≤ p.0) × (1 ≤ p.1) × (p.1 ≤ 32) → ⊥) → found card p ≡ false
not_found card p n = fails (found card p) (λ e. n ((found_recipe card p e).0, (found_segment card p e).0, (found_segment card p e).1))

outside : (a b : List ℕ) (p : ℕ × ℕ) → ((1 ≤ p.0) × (1 ≤ p.1) × (p.1 ≤ 32) → ⊥) → change_at a b p ≡ []
outside a b p n = change_none a b p (not_found a p n) (not_found b p n)

rows_all : all_pairs - 0 ≡ suc last_recipe * 256
unfolding all_pairs last_recipe
rows_all = refl

pub last_recipe_lem : last_recipe ≡ 65535
unfolding last_recipe
last_recipe_lem = refl

pub last_segment_lem : last_segment ≡ 32
unfolding last_segment
last_segment_lem = refl

module _ (a b : List ℕ) where
  abbrev change : ℕ → List ((ℕ × ℕ) × ℕ)
  change k = change_at a b (pair_at k)

  -- the changes of the pairs whose number is k or more
  unfoldable pub left : ℕ → List ((ℕ × ℕ) × ℕ)
  left k = each change k (all_pairs - k)

  pub left_all : left 0 ≡ changes a b
  unfolding left changes
  left_all =
      ap (each change 0) rows_all
      ∙ each_rows change (λ r s. change_at a b (r, s)) 256 (λ r s l. ap (change_at a b) (pair_number (r, s) l)) 0 (suc last_recipe)
      ∙ ap (λ (f : ℕ → List ((ℕ × ℕ) × ℕ)). each f 0 (suc last_recipe)) (λ i r. segments r i)
      ∙ ap (λ (l : List ((ℕ × ℕ) × ℕ)). l ++ each (λ r. each (λ s. change_at a b (r, s)) 1 last_segment) 1 last_recipe)
      (each_nothing (λ s. change_at a b (0, s)) 1 last_segment (λ s l u. outside a b (0, s) (λ w. omega arith)))
    where
      segments : (r : ℕ) → each (λ s. change_at a b (r, s)) 0 256 ≡ each (λ s. change_at a b (r, s)) 1 last_segment
      segments r =
          let q = last_segment_lem in
          each_inside (λ s. change_at a b (r, s)) 256 last_segment (omega arith)
          (outside a b (r, 0) (λ w. omega arith)) (λ s l. outside a b (r, s) (λ w. omega arith))

  pub left_end : (k : ℕ) → 16777216 ≤ k → left k ≡ []
  unfolding left
  left_end k h = let q = all_pairs_lem in let e : all_pairs - k ≡ 0 = omega arith in ap (each change k) e

  -- the next number at which a card has anything
  pub left_next : (k x : ℕ) → k ≤ x → x < 16777216 → ((j : ℕ) → k ≤ j → j < x → found a (pair_at j) ≡ false)
      → ((j : ℕ) → k ≤ j → j < x → found b (pair_at j) ≡ false) → left k ≡ change_at a b (pair_at x) ++ left (x + 1)
  unfolding left
  left_next k x l u f g =
      let q = all_pairs_lem in
      each_next change k x all_pairs l (omega arith) (λ j m n. change_none a b (pair_at j) (f j m n) (g j m n))
