-- MDS_H and its inverse (002, section 3.2) undo one another. Each is written over any sum, so that the equations are solved over unknowns.
use mathlib.Core.Path.{◌≡◌, refl}
use mathlib.Core.List.{List, []}
use Prim.Native.Nat.{ℕ}
use lib.Pow.{pow_pos}
use lib.Bits.{bit_xor}
use lib.ListN.{get_or}
use Rattle.laws.specs.Places.{tab}
use Rattle.laws.specs.Bytes.{Byte, Bytes}
use Rattle.laws.specs.Matrix.{total, pick, bit_matrix}
use Rattle.laws.specs.Inverse.{Inverse}
use Rattle.laws.proofs.Places.{each_tab, each_default}
use Rattle.laws.proofs.XorLists.{xor_l_bytes}
use Rattle.laws.proofs.Rounds.{steps_keep}
use Rattle.laws.proofs.Matrix.{pick_lt, total_lt}
use Rattle.laws.proofs.Sums.{solve_lists}
use Rattle.laws.proofs.Sums.Sum.{zer, ◌⊕◌}
use Rattle.hierocrypt3_steps.proofs.Blocks.{Block, vars, on_blocks}
use Rattle.hierocrypt3_steps.specs.Operations.{rows_h, rows_h⁻, add_columns, on_columns, MDSH, MDSH⁻}

-- ---- there and back
undo : (x : List (List ℕ)) → Block x → MDSH⁻ (MDSH x) ≡ x
unfolding MDSH MDSH⁻ vars
undo =
    on_blocks (λ x. MDSH⁻ (MDSH x)) (λ x. x)
    (λ f. solve_lists (λ x. x) (λ x y. refl) (tab 16 f) (on_columns ◌⊕◌ zer rows_h⁻ (on_columns ◌⊕◌ zer rows_h vars)) vars tt)

redo : (x : List (List ℕ)) → Block x → MDSH (MDSH⁻ x) ≡ x
unfolding MDSH MDSH⁻ vars
redo =
    on_blocks (λ x. MDSH (MDSH⁻ x)) (λ x. x)
    (λ f. solve_lists (λ x. x) (λ x y. refl) (tab 16 f) (on_columns ◌⊕◌ zer rows_h (on_columns ◌⊕◌ zer rows_h⁻ vars)) vars tt)

-- ---- bytes stay bytes
pub bit_matrix_bytes : (m : List (List ℕ)) (x : List ℕ) → Bytes 4 x → Bytes 4 (bit_matrix bit_xor 0 4 m x)
bit_matrix_bytes m x w =
    each_tab Byte 0 4 (λ i. total bit_xor 0 4 (λ j. pick bit_xor 0 (get_or (get_or m i []) j 0) (get_or x j 0)))
    (λ i h. total_lt 8 4 (λ j. pick bit_xor 0 (get_or (get_or m i []) j 0) (get_or x j 0))
    (λ j l. pick_lt 8 (get_or (get_or m i []) j 0) (get_or x j 0) (w.each j l)))

abbrev none : List ℕ
none = tab 4 (λ k. 0)

on_columns_bytes : (rows : List (List (List (List ℕ)))) (x : List (List ℕ)) → Block x → Block (on_columns bit_xor 0 rows x)
on_columns_bytes rows x w =
    let term : ℕ → ℕ → List ℕ = λ i j. bit_matrix bit_xor 0 4 (get_or (get_or rows i []) j []) (get_or x j none) in
    each_tab (Bytes 4) [] 4 (λ i. total (add_columns bit_xor 0) none 4 (term i))
    (λ i h.
    steps_keep (Bytes 4) 4 (λ j y. add_columns bit_xor 0 y (term i j))
    (λ j y l v. xor_l_bytes 4 y (term i j) v (bit_matrix_bytes (get_or (get_or rows i []) j []) (get_or x j none) (each_default [] none 4 x w j l)))
    none (each_tab Byte 0 4 (λ k. 0) (λ k l. pow_pos 8)))

pub mds_h_inverse : Inverse Block MDSH MDSH⁻
unfolding MDSH MDSH⁻
mds_h_inverse = record { on = on_columns_bytes rows_h; off = on_columns_bytes rows_h⁻; undo = undo; redo = redo }
