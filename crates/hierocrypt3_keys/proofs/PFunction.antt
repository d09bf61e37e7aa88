-- P^(n) (002, section 3.8) as the code takes it, with the halves of four bytes or of a piece exchanged. The equations are solved over unknowns.
use mathlib.Core.Path.{◌≡◌, refl, sym, ap₂, ◌∙◌}
use mathlib.Core.List.{List, ◌++◌}
use Prim.Native.Nat.{ℕ, ◌+◌}
use lib.ListN.{length, get_or}
use Rattle.laws.specs.Places.{tab, part, quarters, joined}
use Rattle.laws.specs.Bytes.{xor_l}
use Rattle.laws.specs.Matrix.{bit_matrix}
use Rattle.laws.proofs.Places.{tab_self}
use Rattle.laws.proofs.Sums.{Sum, solve_list}
use Rattle.laws.proofs.Sums.Sum.{at, zer, ◌⊕◌}
use Rattle.hierocrypt3_keys.specs.Operations.{rows_p, rows_p⁻, P, P⁻}
use Rattle.hierocrypt3_keys.specs.code.Exchanged.{exchanged}

-- ---- over unknowns
abbrev plus : ℕ → List Sum → List Sum → List Sum
plus m x y = tab m (λ j. get_or x j zer ⊕ get_or y j zer)

abbrev exchange : ℕ → List Sum → List Sum
exchange m x = part zer m m x ++ part zer 0 m x

abbrev solved : ℕ → List (List ℕ) → List Sum → List Sum
solved m rows x = joined zer m (bit_matrix (plus m) (tab m (λ j. zer)) 4 rows (quarters zer m x))

-- ---- P^(16) on a piece
module _ (x : List ℕ) where
  abbrev first : List ℕ
  first = xor_l 4 (part 0 0 4 x) (part 0 4 4 x)

  pub p16_halves : first ++ xor_l 4 (exchanged 2 first) (part 0 4 4 x) ≡ P 2 x
  unfolding P
  p16_halves =
      let x3 : List Sum = part zer 4 4 (tab 8 at) in
      let y : List Sum = plus 4 (part zer 0 4 (tab 8 at)) x3 in
      solve_list (λ y. y) (λ y z. refl) (tab 8 (λ j. get_or x j 0)) (y ++ plus 4 (exchange 2 y) x3) (solved 2 rows_p (tab 8 at)) tt

-- ---- P^(32) on two pieces, and its inverse
module _ (x y : List ℕ) (lx : length x ≡ 8) (ly : length y ≡ 8) where
  abbrev u : List Sum
  u = tab 8 at

  abbrev v : List Sum
  v = tab 8 (λ j. at (8 + j))

  abbrev values : List ℕ
  values = tab 8 (λ j. get_or x j 0) ++ tab 8 (λ j. get_or y j 0)

  -- a function of both pieces, seen through their bytes
  by_bytes_lem : (F : List ℕ → List ℕ) → F (x ++ y) ≡ F values
  by_bytes_lem F = ap₂ (λ (a b : List ℕ). F (a ++ b)) (tab_self 8 0 x lx) (tab_self 8 0 y ly)

  pub p32_first : xor_l 8 x y ≡ part 0 0 8 (P 4 (x ++ y))
  unfolding P
  p32_first = solve_list (λ z. z) (λ z w. refl) values (plus 8 u v) (part zer 0 8 (solved 4 rows_p (u ++ v))) tt ∙ sym (by_bytes_lem (λ z. part 0 0 8 (P 4 z)))

  pub p32_second : xor_l 8 (exchanged 4 (xor_l 8 x y)) y ≡ part 0 8 8 (P 4 (x ++ y))
  unfolding P
  p32_second =
      solve_list (λ z. z) (λ z w. refl) values (plus 8 (exchange 4 (plus 8 u v)) v) (part zer 8 8 (solved 4 rows_p (u ++ v))) tt
      ∙ sym (by_bytes_lem (λ z. part 0 8 8 (P 4 z)))

  pub p32_first⁻ : xor_l 8 x (xor_l 8 (exchanged 4 x) y) ≡ part 0 0 8 (P⁻ 4 (x ++ y))
  unfolding P⁻
  p32_first⁻ =
      solve_list (λ z. z) (λ z w. refl) values (plus 8 u (plus 8 (exchange 4 u) v)) (part zer 0 8 (solved 4 rows_p⁻ (u ++ v))) tt
      ∙ sym (by_bytes_lem (λ z. part 0 0 8 (P⁻ 4 z)))

  pub p32_second⁻ : xor_l 8 (exchanged 4 x) y ≡ part 0 8 8 (P⁻ 4 (x ++ y))
  unfolding P⁻
  p32_second⁻ =
      solve_list (λ z. z) (λ z w. refl) values (plus 8 (exchange 4 u) v) (part zer 8 8 (solved 4 rows_p⁻ (u ++ v))) tt
      ∙ sym (by_bytes_lem (λ z. part 0 8 8 (P⁻ 4 z)))
