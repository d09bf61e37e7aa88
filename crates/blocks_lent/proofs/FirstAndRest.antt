-- A message by its first block f and the rest p: block number j, counted from 0.
use mathlib.Core.Path.{◌≡◌, sym, ap, ◌∙◌}
use mathlib.Core.List.{List, ◌++◌}
use Prim.Native.Nat.{ℕ, ◌+◌, ◌-◌, ◌*◌}
use native.Mathlib.Omega.{arith}
use lib.ListN.{length, take, drop}
use lib.Seq.{drop-append-add, take_at}

module _ (f p : List ℕ) (whole : length f ≡ 16) where
  pub block_first : (j : ℕ) → j ≡ 0 → f ≡ take 16 (drop (16 * j) (f ++ p))
  block_first j none = rw none (sym (take_at f p 16 whole))

  pub block_later : (j : ℕ) → (j ≡ 0 → ⊥) → take 16 (drop (16 * (j - 1)) p) ≡ take 16 (drop (16 * j) (f ++ p))
  block_later j some =
      let m : 16 * j ≡ length f + 16 * (j - 1) = omega arith in
      sym (ap (λ (n : ℕ). take 16 (drop n (f ++ p))) m ∙ ap (take 16) (drop-append-add f p (16 * (j - 1))))
