-- A block of four columns of four bytes, and two functions of it that agree where they agree on sixteen unknowns.
use mathlib.Core.Path.{◌≡◌, sym, ap, ◌∙◌}
use mathlib.Core.List.{List, []}
use Prim.Native.Nat.{ℕ, ◌+◌, ◌*◌, ◌/◌, ◌%◌}
use lib.ListN.{get_or}
use Rattle.laws.specs.Places.{tab, Each}
use Rattle.laws.specs.Bytes.{Bytes}
use Rattle.laws.proofs.Places.{tab_is, tab_self}
use Rattle.laws.proofs.Sums.{Sum}
use Rattle.laws.proofs.Sums.Sum.{at}

abbrev pub Block : List (List ℕ) → Type 0
Block = Each (Bytes 4) [] 4

-- sixteen values as four columns
abbrev pub columns : {A : Type 0} → (ℕ → A) → List (List A)
columns f = tab 4 (λ i. tab 4 (λ k. f (i * 4 + k)))

abbrev pub nth : List (List ℕ) → ℕ → ℕ
nth x n = get_or (get_or x (n / 4) []) (n % 4) 0

pub block_columns : (x : List (List ℕ)) → Block x → x ≡ columns (nth x)
block_columns x w =
    tab_is 4 (λ i. tab 4 (λ k. get_or (get_or x i []) k 0)) [] x w.long (λ i h. tab_self 4 0 (get_or x i []) (w.each i h).long)

unfoldable pub vars : List (List Sum)
vars = columns at

module _ (F G : List (List ℕ) → List (List ℕ)) (agree : (f : ℕ → ℕ) → F (columns f) ≡ G (columns f)) where
  pub on_blocks : (x : List (List ℕ)) → Block x → F x ≡ G x
  on_blocks x w = ap F (block_columns x w) ∙ agree (nth x) ∙ sym (ap G (block_columns x w))
