-- A square matrix of any coefficients times a column of any values that can be added: bits on bytes, bytes on bytes, matrices on columns.
use Rattle.std.specs.Prelude.{List, [], ℕ, zero, suc, get_or}
use Rattle.laws.specs.Places.{tab}
use Rattle.laws.specs.Rounds.{steps}

module _ {A : Type 0} (add : A → A → A) (none : A) where
  -- f 0 + f 1 + .. + f (n - 1)
  abbrev pub total : ℕ → (ℕ → A) → A
  total n f = steps n (λ j acc. add acc (f j)) none

  -- a value, if the bit is set
  abbrev pub pick : ℕ → A → A
  pick zero x = none
  pick (suc b) x = x

  -- place i of n: row i's coefficients times the values, added up. `c₀` is what a missing coefficient is
  abbrev pub matrix : {C : Type 0} → C → (C → A → A) → ℕ → List (List C) → List A → List A
  matrix c₀ mul n rows xs = tab n (λ i. total n (λ j. mul (get_or (get_or rows i []) j c₀) (get_or xs j none)))

  -- a matrix of bits
  abbrev pub bit_matrix : ℕ → List (List ℕ) → List A → List A
  bit_matrix n rows xs = matrix 0 pick n rows xs
