-- P^(n) and its inverse (002, section 3.8) undo one another at every width of whole bytes: byte j of the four values goes by itself through the matrix of bits,
-- whose equations are solved over unknowns.
use mathlib.Core.Path.{◌≡◌, refl, sym, ap, ap₂, ◌∙◌}
use mathlib.Core.List.{List, []}
use Prim.Native.Nat.{ℕ, zero, suc, ◌+◌, ◌*◌, ◌/◌, ◌%◌, ◌<◌}
use native.Mathlib.Nat.{div-lt_iff_lt-mul, div-add-mod', mod-lt}
use lib.Arith.{digits_lt, digits_div, digits_mod}
use lib.Pow.{pow_pos}
use lib.Bits.{bit_xor}
use lib.ListN.{length, get_or}
use Rattle.laws.specs.Places.{tab, part, quarters, joined, Each}
use Rattle.laws.specs.Bytes.{Byte, Bytes, xor_l}
use Rattle.laws.specs.Matrix.{total, pick, bit_matrix}
use Rattle.laws.specs.Inverse.{Inverse}
use Rattle.laws.proofs.Places.{length-tab, get_or-tab, tab_equal, tab_self, each_tab, each_default}
use Rattle.laws.proofs.Words.{byte_at}
use Rattle.laws.proofs.XorLists.{get_or-xor_l, xor_l_bytes}
use Rattle.laws.proofs.Rounds.{steps_keep}
use Rattle.laws.proofs.Matrix.{total_equal}
use Rattle.laws.proofs.Sums.{solve_list}
use Rattle.laws.proofs.Sums.Sum.{at, zer, ◌⊕◌}
use Rattle.hierocrypt3_keys.specs.Operations.{rows_p, rows_p⁻, P, P⁻}

undo_bits : (f : ℕ → ℕ) → bit_matrix bit_xor 0 4 rows_p⁻ (bit_matrix bit_xor 0 4 rows_p (tab 4 f)) ≡ tab 4 f
undo_bits f = solve_list (λ y. y) (λ y z. refl) (tab 4 f) (bit_matrix ◌⊕◌ zer 4 rows_p⁻ (bit_matrix ◌⊕◌ zer 4 rows_p (tab 4 at))) (tab 4 at) tt

redo_bits : (f : ℕ → ℕ) → bit_matrix bit_xor 0 4 rows_p (bit_matrix bit_xor 0 4 rows_p⁻ (tab 4 f)) ≡ tab 4 f
redo_bits f = solve_list (λ y. y) (λ y z. refl) (tab 4 f) (bit_matrix ◌⊕◌ zer 4 rows_p (bit_matrix ◌⊕◌ zer 4 rows_p⁻ (tab 4 at))) (tab 4 at) tt

module _ (m : ℕ) (some : 0 < m) where
  abbrev none : List ℕ
  none = tab m (λ j. 0)

  mixed : List (List ℕ) → List ℕ → List ℕ
  mixed rows x = joined 0 m (bit_matrix (xor_l m) none 4 rows (quarters 0 m x))

  -- byte j of each of the four
  across : List ℕ → ℕ → List ℕ
  across x j = tab 4 (λ k. get_or x (k * m + j) 0)

  quarter : (n : ℕ) → n < 4 * m → n / m < 4
  quarter n h = (div-lt_iff_lt-mul some).1 h

  pick_at : (b : ℕ) (y : List ℕ) (j : ℕ) → j < m → get_or (pick (xor_l m) none b y) j 0 ≡ pick bit_xor 0 b (get_or y j 0)
  pick_at zero y j h = get_or-tab m (λ i. 0) j 0 h
  pick_at (suc b) y j h = refl

  total_at : (n : ℕ) (f : ℕ → List ℕ) (j : ℕ) → j < m → get_or (total (xor_l m) none n f) j 0 ≡ total bit_xor 0 n (λ k. get_or (f k) j 0)
  total_at zero f j h = get_or-tab m (λ i. 0) j 0 h
  total_at (suc n) f j h = get_or-xor_l m (total (xor_l m) none n f) (f n) j h ∙ ap (λ (v : ℕ). bit_xor v (get_or (f n) j 0)) (total_at n f j h)

  quarter_at : (x : List ℕ) (k j : ℕ) → k < 4 → j < m → get_or (get_or (quarters 0 m x) k none) j 0 ≡ get_or x (k * m + j) 0
  quarter_at x k j hk hj =
      ap (λ (l : List ℕ). get_or l j 0) (get_or-tab 4 (λ q. part 0 (q * m) m x) k none hk) ∙ get_or-tab m (λ n. get_or x (k * m + n) 0) j 0 hj

  abbrev bit_at : List (List ℕ) → ℕ → ℕ → ℕ
  bit_at rows i k = get_or (get_or rows i []) k 0

  abbrev term : List (List ℕ) → List ℕ → ℕ → ℕ → List ℕ
  term rows x i k = pick (xor_l m) none (bit_at rows i k) (get_or (quarters 0 m x) k none)

  mixed_at : (rows : List (List ℕ)) (x : List ℕ) (i j : ℕ) → i < 4 → j < m
      → get_or (mixed rows x) (i * m + j) 0 ≡ total bit_xor 0 4 (λ k. pick bit_xor 0 (bit_at rows i k) (get_or (across x j) k 0))
  unfolding mixed across
  mixed_at rows x i j hi hj =
      let ys : List (List ℕ) = bit_matrix (xor_l m) none 4 rows (quarters 0 m x) in
      get_or-tab (4 * m) (λ n. get_or (get_or ys (n / m) []) (n % m) 0) (i * m + j) 0 (digits_lt hi hj)
      ∙ ap₂ (λ (p q : ℕ). get_or (get_or ys p []) q 0) (digits_div i hj) (digits_mod i hj)
      ∙ ap (λ (l : List ℕ). get_or l j 0) (get_or-tab 4 (λ r. total (xor_l m) none 4 (term rows x r)) i [] hi)
      ∙ total_at 4 (term rows x i) j hj
      ∙ total_equal bit_xor 0 4 (λ k. get_or (term rows x i k) j 0) (λ k. pick bit_xor 0 (bit_at rows i k) (get_or (across x j) k 0))
      (λ k hk. pick_at (bit_at rows i k) (get_or (quarters 0 m x) k none) j hj
      ∙ ap (pick bit_xor 0 (bit_at rows i k)) (quarter_at x k j hk hj ∙ sym (get_or-tab 4 (λ l. get_or x (l * m + j) 0) k 0 hk)))

  across-mixed : (rows : List (List ℕ)) (x : List ℕ) (j : ℕ) → j < m → across (mixed rows x) j ≡ bit_matrix bit_xor 0 4 rows (across x j)
  unfolding across
  across-mixed rows x j hj =
      tab_equal 4 (λ k. get_or (mixed rows x) (k * m + j) 0) (λ i. total bit_xor 0 4 (λ k. pick bit_xor 0 (bit_at rows i k) (get_or (across x j) k 0))) 0
      (λ i hi. mixed_at rows x i j hi hj)

  by_across : (x y : List ℕ) → length x ≡ 4 * m → length y ≡ 4 * m → ((j : ℕ) → j < m → across x j ≡ across y j) → x ≡ y
  unfolding across
  by_across x y lx ly same =
      tab_self (4 * m) 0 x lx ∙ tab_equal (4 * m) (λ n. get_or x n 0) (λ n. get_or y n 0) 0 there ∙ sym (tab_self (4 * m) 0 y ly)
    where
      seen : (l : List ℕ) (n : ℕ) → n < 4 * m → get_or l n 0 ≡ get_or (across l (n % m)) (n / m) 0
      seen l n h = ap (λ (k : ℕ). get_or l k 0) (sym (div-add-mod' n m)) ∙ sym (get_or-tab 4 (λ k. get_or l (k * m + n % m) 0) (n / m) 0 (quarter n h))

      there : (n : ℕ) → n < 4 * m → get_or x n 0 ≡ get_or y n 0
      there n h = seen x n h ∙ ap (λ (l : List ℕ). get_or l (n / m) 0) (same (n % m) (mod-lt n some)) ∙ sym (seen y n h)

  mixed_long : (rows : List (List ℕ)) (x : List ℕ) → length (mixed rows x) ≡ 4 * m
  unfolding mixed
  mixed_long rows x = length-tab (4 * m) (λ n. get_or (get_or (bit_matrix (xor_l m) none 4 rows (quarters 0 m x)) (n / m) []) (n % m) 0)

  through : (rows back : List (List ℕ)) → ((f : ℕ → ℕ) → bit_matrix bit_xor 0 4 back (bit_matrix bit_xor 0 4 rows (tab 4 f)) ≡ tab 4 f)
      → (x : List ℕ) → Bytes (4 * m) x → mixed back (mixed rows x) ≡ x
  unfolding across
  through rows back undone x w =
      by_across (mixed back (mixed rows x)) x (mixed_long back (mixed rows x)) w.long
      (λ j h. across-mixed back (mixed rows x) j h ∙ ap (bit_matrix bit_xor 0 4 back) (across-mixed rows x j h) ∙ undone (λ k. get_or x (k * m + j) 0))

  -- bytes stay bytes
  none_bytes : Bytes m none
  none_bytes = each_tab Byte 0 m (λ j. 0) (λ j h. pow_pos 8)

  pick_bytes : (b : ℕ) (x : List ℕ) → Bytes m x → Bytes m (pick (xor_l m) none b x)
  pick_bytes zero x w = none_bytes
  pick_bytes (suc b) x w = w

  sum_bytes : (k : ℕ) (rows : List (List ℕ)) (x : List ℕ) → Bytes k x → (i : ℕ) → Bytes m (total (xor_l m) none 4 (term rows x i))
  sum_bytes k rows x w i =
      steps_keep (Bytes m) 4 (λ j y. xor_l m y (term rows x i j))
      (λ j y h v. xor_l_bytes m y (term rows x i j) v
      (pick_bytes (bit_at rows i j) (get_or (quarters 0 m x) j none)
      (each_default [] none 4 (quarters 0 m x)
      (each_tab (Bytes m) [] 4 (λ q. part 0 (q * m) m x) (λ q l. each_tab Byte 0 m (λ n. get_or x (q * m + n) 0) (λ n o. byte_at k x (q * m + n) w))) j h)))
      none none_bytes

  mixed_bytes : (rows : List (List ℕ)) (x : List ℕ) → Bytes (4 * m) x → Bytes (4 * m) (mixed rows x)
  unfolding mixed
  mixed_bytes rows x w =
      let ys : List (List ℕ) = bit_matrix (xor_l m) none 4 rows (quarters 0 m x) in
      let each-column : Each (Bytes m) [] 4 ys = each_tab (Bytes m) [] 4 (λ i. total (xor_l m) none 4 (term rows x i)) (λ i h. sum_bytes (4 * m) rows x w i) in
      each_tab Byte 0 (4 * m) (λ n. get_or (get_or ys (n / m) []) (n % m) 0)
      (λ n h. byte_at m (get_or ys (n / m) []) (n % m) (each-column.each (n / m) (quarter n h)))

  pub P_inverse : Inverse (Bytes (4 * m)) (P m) (P⁻ m)
  unfolding P P⁻ mixed
  P_inverse =
      record {
        on = mixed_bytes rows_p;
        off = mixed_bytes rows_p⁻;
        undo = through rows_p rows_p⁻ undo_bits;
        redo = through rows_p⁻ rows_p redo_bits;
      }
