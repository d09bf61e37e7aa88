-- A table's rule at each of its places, from one test that antt computes over the whole table.
use mathlib.Core.Path.{◌≡◌, ◌∙◌, subst, sym}
use mathlib.Core.Bool.{Bool, true}
use mathlib.Core.List.{List, [], ◌∷◌}
use Prim.Native.Nat.{ℕ, zero, suc, ◌+◌, ◌<◌}
use native.Mathlib.Nat.{add-zero, zero-add, add-suc, suc-add, le_of_suc-le-suc, not-suc-le-zero}
use lib.Dec.{T, eqb, eqb→eq}
use lib.ListN.{length, get_or}
use Rattle.laws.specs.Places.{tab}
use Rattle.laws.proofs.Places.{tab_is}
use Rattle.laws.proofs.Test.{both, both_left, both_right}

-- the test f passes at each place, counted from i, and the entry there
abbrev pub every : (ℕ → ℕ → Bool) → ℕ → List ℕ → Bool
every f i [] = true
every f i (x ∷ xs) = both (f i x) (every f (suc i) xs)

every_from : (f : ℕ → ℕ → Bool) (xs : List ℕ) (i : ℕ) → T (every f i xs) → (k : ℕ) → k < length xs → T (f (i + k) (get_or xs k 0))
every_from f [] i t k h = absurd (not-suc-le-zero h)
every_from f (x ∷ xs) i t zero h = subst (λ (m : ℕ). T (f m x)) (sym (add-zero i)) (both_left (f i x) (every f (suc i) xs) t)
every_from f (x ∷ xs) i t (suc k) h =
    subst (λ (m : ℕ). T (f m (get_or xs k 0))) (suc-add i k ∙ sym (add-suc i k))
    (every_from f xs (suc i) (both_right (f i x) (every f (suc i) xs) t) k (le_of_suc-le-suc h))

pub table_at : (f : ℕ → ℕ → Bool) (xs : List ℕ) → T (every f 0 xs) → (k : ℕ) → k < length xs → T (f k (get_or xs k 0))
table_at f xs t k h = subst (λ (m : ℕ). T (f m (get_or xs k 0))) (zero-add k) (every_from f xs 0 t k h)

-- ---- a list is the table of a function where it is so at each place
-- the rule f is computed as g, which is the same
pub tab_computed : (n : ℕ) (f g : ℕ → ℕ) → ((k : ℕ) → k < n → g k ≡ f k) → (xs : List ℕ) → length xs ≡ n
    → T (every (λ k x. eqb x (g k)) 0 xs) → xs ≡ tab n f
tab_computed n f g same xs long t =
    tab_is n f 0 xs long
    (λ k h. eqb→eq (get_or xs k 0) (g k) (table_at (λ j x. eqb x (g j)) xs t k (subst (λ (m : ℕ). k < m) (sym long) h)) ∙ same k h)
