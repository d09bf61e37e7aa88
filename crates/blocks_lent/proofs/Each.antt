-- Blocks each by itself: the loop that writes f of one block after the other to the output o, and a single block.
use mathlib.Core.Path.{◌≡◌, refl, ap, ◌∙◌}
use mathlib.Core.List.{List, [], ◌∷◌, ◌++◌, append-nil}
use Prim.Native.Nat.{ℕ, ◌+◌}
use native.Mathlib.Omega.{arith}
use lib.ListN.{length, drop}
use lib.Seq.{take_all}
use Rattle.cbc.specs.Cbc.{join, blocks}
use Rattle.cbc.proofs.Parts.{blocks_add, join-append}
use Rattle.cbc.proofs.Loop.{block}
use Rattle.blocks_lent.specs.Ways.{each}

module _ (f : List ℕ → List ℕ) where
  each_append : (a b : List (List ℕ)) → each f (a ++ b) ≡ each f a ++ each f b
  each_append [] b = refl
  each_append (x ∷ a) b = ap (λ (l : List (List ℕ)). f x ∷ l) (each_append a b)

  -- what the first j blocks of w give
  abbrev pub given : List ℕ → ℕ → List ℕ
  given w j = join (each f (blocks j w))

  pub given_next : (w : List ℕ) (j : ℕ) → given w (j + 1) ≡ given w j ++ f (block w j)
  given_next w j =
      ap (λ (bs : List (List ℕ)). join (each f bs)) (blocks_add j 1 w)
      ∙ ap join (each_append (blocks j w) (block w j ∷ []))
      ∙ join-append (each f (blocks j w)) (f (block w j) ∷ [])
      ∙ ap (λ (l : List ℕ). given w j ++ l) (append-nil (f (block w j)))

  -- one block alone
  pub given_one : (x o : List ℕ) → length x ≡ 16 → given x 1 ++ drop 16 o ≡ f x ++ drop 16 o
  given_one x o l =
      ap (λ (y : List ℕ). y ++ drop 16 o) (append-nil (f (block x 0)) ∙ ap f (take_all 16 x (omega arith)))
