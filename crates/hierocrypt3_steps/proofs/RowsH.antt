-- MDS_H as the code takes it (002, section 3.2): four rows of the block as words, a row of bits times them by xors of whole words, and what comes of four
-- matrices' rows turned by one column more each and xored. `matrices` says it over any sum, so that it is MDS_H by equations solved over unknowns.
use mathlib.Core.Path.{◌≡◌, refl, ap, ◌∙◌}
use mathlib.Core.List.{List, [], ◌∷◌}
use Prim.Native.Nat.{ℕ, zero, suc, ◌+◌, ◌%◌, ◌<◌}
use native.Mathlib.Nat.{le-suc, le_trans, le_refl}
use lib.Bits.{bit_xor}
use lib.Dec.{lit<}
use lib.ListN.{get_or}
use Rattle.laws.specs.Places.{tab}
use Rattle.laws.specs.Bytes.{Byte, Bytes, word}
use Rattle.laws.specs.Matrix.{total, pick}
use Rattle.laws.proofs.BigEndian.{word_xor}
use Rattle.laws.proofs.Matrix.{pick_lt, total_lt}
use Rattle.laws.proofs.Sums.{solve_lists}
use Rattle.laws.proofs.Sums.Sum.{zer, ◌⊕◌}
use Rattle.hierocrypt3_steps.specs.Operations.{a, b, c, d, e, rows_h, rows_h⁻, on_columns, MDSH, MDSH⁻}
use Rattle.hierocrypt3_steps.specs.code.Columns.{turned_sum, row_words, bit_row, turned_row, column_of}
use Rattle.hierocrypt3_steps.proofs.Circulant.{turned_bytes}
use Rattle.hierocrypt3_steps.proofs.Blocks.{Block, vars, on_blocks}

-- ---- a sum of words, byte by byte
module _ (f g h k : ℕ → ℕ) where
  abbrev at : ℕ → ℕ
  at j = word (f j) (g j) (h j) (k j)

  total-word : (n : ℕ) → ((j : ℕ) → j < n → Byte (g j)) → ((j : ℕ) → j < n → Byte (h j)) → ((j : ℕ) → j < n → Byte (k j))
      → total bit_xor 0 n at ≡ word (total bit_xor 0 n f) (total bit_xor 0 n g) (total bit_xor 0 n h) (total bit_xor 0 n k)
  total-word zero hg hh hk = refl
  total-word (suc n) hg hh hk =
      let up : (j : ℕ) → j < n → j < suc n = λ j l. le_trans l (le-suc n) in
      let last : n < suc n = le_refl (suc n) in
      ap (λ (x : ℕ). bit_xor x (at n)) (total-word n (λ j l. hg j (up j l)) (λ j l. hh j (up j l)) (λ j l. hk j (up j l)))
      ∙ word_xor (total bit_xor 0 n f) (total bit_xor 0 n g) (total bit_xor 0 n h) (total bit_xor 0 n k) (f n) (g n) (h n) (k n)
      (total_lt 8 n g (λ j l. hg j (up j l))) (total_lt 8 n h (λ j l. hh j (up j l))) (total_lt 8 n k (λ j l. hk j (up j l)))
      (hg n last) (hh n last) (hk n last)

pick_word : (bit p q r s : ℕ) → pick bit_xor 0 bit (word p q r s) ≡ word (pick bit_xor 0 bit p) (pick bit_xor 0 bit q) (pick bit_xor 0 bit r) (pick bit_xor 0 bit s)
pick_word zero p q r s = refl
pick_word (suc bit) p q r s = refl

-- ---- a row of bits times the rows of the block, and times each column
pub bit_row_byte : (m y : List ℕ) → Bytes 4 y → Byte (bit_row m y)
unfolding bit_row
bit_row_byte m y w = total_lt 8 4 (λ k. pick bit_xor 0 (get_or m k 0) (get_or y k 0)) (λ k l. pick_lt 8 (get_or m k 0) (get_or y k 0) (w.each k l))

module _ (x : List (List ℕ)) (w : Block x) where
  abbrev cell : ℕ → ℕ → ℕ
  cell j k = get_or (get_or x j []) k 0

  cell_picked : (m : List ℕ) (j : ℕ) → j < 4 → (k : ℕ) → k < 4 → Byte (pick bit_xor 0 (get_or m k 0) (cell j k))
  cell_picked m j h k l = pick_lt 8 (get_or m k 0) (cell j k) ((w.each j h).each k l)

  row_word_lem : (m : List ℕ) → bit_row m (row_words x) ≡ word (bit_row m (get_or x 0 [])) (bit_row m (get_or x 1 [])) (bit_row m (get_or x 2 [])) (bit_row m (get_or x 3 []))
  unfolding bit_row
  row_word_lem m =
      (λ i. bit_xor (bit_xor (bit_xor (bit_xor 0 (picked 0 i)) (picked 1 i)) (picked 2 i)) (picked 3 i))
      ∙ total-word (column 0) (column 1) (column 2) (column 3) 4 (cell_picked m 1 (lit< tt)) (cell_picked m 2 (lit< tt)) (cell_picked m 3 (lit< tt))
    where
      column : ℕ → ℕ → ℕ
      column j k = pick bit_xor 0 (get_or m k 0) (cell j k)

      picked : (k : ℕ) → pick bit_xor 0 (get_or m k 0) (word (cell 0 k) (cell 1 k) (cell 2 k) (cell 3 k))
          ≡ word (column 0 k) (column 1 k) (column 2 k) (column 3 k)
      picked k = pick_word (get_or m k 0) (cell 0 k) (cell 1 k) (cell 2 k) (cell 3 k)

-- ---- four matrices on a block, the second, third and fourth on the columns three, two and one further: over any sum
module _ {A : Type 0} (add : A → A → A) (none : A) (m n o q : List (List ℕ)) (x : List (List A)) where
  abbrev entry_of : List (List ℕ) → ℕ → ℕ → A
  entry_of l i j = total add none 4 (λ k. pick add none (get_or (get_or l i []) k 0) (get_or (get_or x j []) k none))

  abbrev pub matrices : List (List A)
  matrices = tab 4 (λ j. tab 4 (λ i. add (add (add (entry_of m i j) (entry_of n i ((j + 3) % 4))) (entry_of o i ((j + 2) % 4))) (entry_of q i ((j + 1) % 4))))

module _ (m n o q : List (List ℕ)) where
  module _ (x : List (List ℕ)) (w : Block x) where
    abbrev sum : ℕ → ℕ → ℕ
    sum i j =
        bit_xor (bit_xor (bit_xor (entry_of bit_xor 0 m n o q x m i j) (entry_of bit_xor 0 m n o q x n i ((j + 3) % 4)))
        (entry_of bit_xor 0 m n o q x o i ((j + 2) % 4))) (entry_of bit_xor 0 m n o q x q i ((j + 1) % 4))

    turned_row_lem : (i : ℕ) → turned_row m n o q (row_words x) i ≡ tab 4 (sum i)
    unfolding bit_row
    turned_row_lem i =
        (λ t. turned_sum (row_word_lem x w (get_or m i []) t) (row_word_lem x w (get_or n i []) t) (row_word_lem x w (get_or o i []) t) (row_word_lem x w (get_or q i []) t))
        ∙ turned_bytes (part 0) (part 1) (part 2) (part 3) (byte 0 (lit< tt)) (byte 1 (lit< tt)) (byte 2 (lit< tt)) (byte 3 (lit< tt)) 0 1 2 3
      where
        row_of : ℕ → List ℕ
        row_of l = get_or (get_or m i [] ∷ get_or n i [] ∷ get_or o i [] ∷ get_or q i [] ∷ []) l []

        part : ℕ → ℕ → ℕ
        part j l = bit_row (row_of l) (get_or x j [])

        byte : (j : ℕ) → j < 4 → (l : ℕ) → Byte (part j l)
        byte j h l = bit_row_byte (row_of l) (get_or x j []) (w.each j h)

    pub rows_are : {v y0 y1 y2 y3 : List ℕ} → v ≡ row_words x → y0 ≡ turned_row m n o q v 0 → y1 ≡ turned_row m n o q v 1
        → y2 ≡ turned_row m n o q v 2 → y3 ≡ turned_row m n o q v 3 → tab 4 (column_of y0 y1 y2 y3) ≡ matrices bit_xor 0 m n o q x
    rows_are {v} ev e0 e1 e2 e3 =
        λ t. tab 4 (column_of (at 0 e0 t) (at 1 e1 t) (at 2 e2 t) (at 3 e3 t))
      where
        at : (i : ℕ) {y : List ℕ} → y ≡ turned_row m n o q v i → y ≡ tab 4 (sum i)
        at i h = h ∙ ap (λ (l : List ℕ). turned_row m n o q l i) ev ∙ turned_row_lem i

-- ---- with 002's matrices that is MDS_H, and its inverse
pub matrices_H : (x : List (List ℕ)) → Block x → matrices bit_xor 0 a c b a x ≡ MDSH x
unfolding MDSH vars
matrices_H =
    on_blocks (matrices bit_xor 0 a c b a) MDSH
    (λ f. solve_lists (λ x. x) (λ x y. refl) (tab 16 f) (matrices ◌⊕◌ zer a c b a vars) (on_columns ◌⊕◌ zer rows_h vars) tt)

pub matrices_H⁻ : (x : List (List ℕ)) → Block x → matrices bit_xor 0 d e c c x ≡ MDSH⁻ x
unfolding MDSH⁻ vars
matrices_H⁻ =
    on_blocks (matrices bit_xor 0 d e c c) MDSH⁻
    (λ f. solve_lists (λ x. x) (λ x y. refl) (tab 16 f) (matrices ◌⊕◌ zer d e c c vars) (on_columns ◌⊕◌ zer rows_h⁻ vars) tt)
