-- XS and the key additions (002, section 3.3) are what the code does column by column, with the key bytes where they stand among the round keys.
use mathlib.Core.Path.{◌≡◌, sym, ap, ◌∙◌}
use mathlib.Core.List.{List, [], ◌∷◌}
use Prim.Native.Nat.{ℕ, ◌+◌, ◌-◌, ◌*◌, ◌<◌}
use native.Mathlib.Omega.{arith}
use lib.Bits.{bit_xor}
use lib.ListN.{get_or}
use Rattle.laws.specs.Places.{layer}
use Rattle.laws.proofs.Places.{get_or-tab, tab_equal}
use Rattle.hierocrypt3_steps.specs.Operations.{S, S⁻, MDSL, MDSL⁻}
use Rattle.hierocrypt3_steps.specs.code.Columns.{s_column, s_column⁻}
use Rattle.hierocrypt3.specs.Block.{add_key, first_half, second_half, round_key, XS, XS⁻}
use Rattle.hierocrypt3.specs.code.Columns.{key_column, xs_column, xs_column⁻}

-- ---- round key i + 1 stands at i * 32
round_key_at : (keys : List ℕ) (i n : ℕ) → n < 32 → get_or (round_key keys (i + 1)) n 0 ≡ get_or keys (i * 32 + n) 0
round_key_at keys i n h =
    let e : (i + 1 - 1) * 32 + n ≡ i * 32 + n = omega arith in
    get_or-tab 32 (λ j. get_or keys ((i + 1 - 1) * 32 + j) 0) n 0 h ∙ ap (λ (m : ℕ). get_or keys m 0) e

first_half_at : (keys : List ℕ) (i n : ℕ) → n < 16 → get_or (first_half (round_key keys (i + 1))) n 0 ≡ get_or keys (i * 32 + n) 0
first_half_at keys i n h =
    let e : i * 32 + (0 + n) ≡ i * 32 + n = omega arith in
    get_or-tab 16 (λ j. get_or (round_key keys (i + 1)) (0 + j) 0) n 0 h
    ∙ round_key_at keys i (0 + n) (omega arith) ∙ ap (λ (m : ℕ). get_or keys m 0) e

second_half_at : (keys : List ℕ) (i n : ℕ) → n < 16 → get_or (second_half (round_key keys (i + 1))) n 0 ≡ get_or keys (i * 32 + 16 + n) 0
second_half_at keys i n h =
    let e : i * 32 + (16 + n) ≡ i * 32 + 16 + n = omega arith in
    get_or-tab 16 (λ j. get_or (round_key keys (i + 1)) (16 + j) 0) n 0 h
    ∙ round_key_at keys i (16 + n) (omega arith) ∙ ap (λ (m : ℕ). get_or keys m 0) e

-- ---- 16 key bytes from `at` on, xored to four columns, which find theirs at m0, m1, m2, m3
module _ (k keys : List ℕ) (at : ℕ) (stands : (n : ℕ) → n < 16 → get_or k n 0 ≡ get_or keys (at + n) 0) where
  column : (q m : ℕ) → q < 4 → m ≡ at + q * 4 → (y : List ℕ) → layer 4 0 (λ j z. bit_xor z (get_or k (q * 4 + j) 0)) y ≡ key_column keys m y
  unfolding key_column
  column q m h e y =
      tab_equal 4 (λ j. bit_xor (get_or y j 0) (get_or k (q * 4 + j) 0)) (λ j. bit_xor (get_or y j 0) (get_or keys (m + j) 0)) 0
      (λ j l.
      let d : at + (q * 4 + j) ≡ m + j = omega arith in
      ap (bit_xor (get_or y j 0)) (stands (q * 4 + j) (omega arith) ∙ ap (λ (n : ℕ). get_or keys n 0) d))

  add_key_columns : (m0 m1 m2 m3 : ℕ) → m0 ≡ at + 0 * 4 → m1 ≡ at + 1 * 4 → m2 ≡ at + 2 * 4 → m3 ≡ at + 3 * 4 → (x : List (List ℕ))
      → add_key k x ≡ key_column keys m0 (get_or x 0 []) ∷ key_column keys m1 (get_or x 1 []) ∷ key_column keys m2 (get_or x 2 []) ∷ key_column keys m3 (get_or x 3 []) ∷ []
  unfolding add_key
  add_key_columns m0 m1 m2 m3 e0 e1 e2 e3 x =
      λ i. column 0 m0 (omega arith) e0 (get_or x 0 []) i
      ∷ column 1 m1 (omega arith) e1 (get_or x 1 []) i
      ∷ column 2 m2 (omega arith) e2 (get_or x 2 []) i
      ∷ column 3 m3 (omega arith) e3 (get_or x 3 []) i
      ∷ []

module _ (keys : List ℕ) (i : ℕ) (x : List (List ℕ)) where
  abbrev at : ℕ
  at = i * 32

  abbrev key : List ℕ
  key = round_key keys (i + 1)

  -- f at each column, with the place of the column's key bytes
  abbrev at_columns : (ℕ → List ℕ → List ℕ) → List (List ℕ) → List (List ℕ)
  at_columns f y = f at (get_or y 0 []) ∷ f (at + 4) (get_or y 1 []) ∷ f (at + 8) (get_or y 2 []) ∷ f (at + 12) (get_or y 3 []) ∷ []

  -- four columns that the code has computed
  computed : (f : ℕ → List ℕ → List ℕ) {y0 y1 y2 y3 : List ℕ} → y0 ≡ f at (get_or x 0 []) → y1 ≡ f (at + 4) (get_or x 1 [])
      → y2 ≡ f (at + 8) (get_or x 2 []) → y3 ≡ f (at + 12) (get_or x 3 []) → y0 ∷ y1 ∷ y2 ∷ y3 ∷ [] ≡ at_columns f x
  computed f e0 e1 e2 e3 = λ j. e0 j ∷ e1 j ∷ e2 j ∷ e3 j ∷ []

  first_columns : (y : List (List ℕ)) → add_key (first_half key) y ≡ at_columns (key_column keys) y
  first_columns y =
      add_key_columns (first_half key) keys at (first_half_at keys i) at (at + 4) (at + 8) (at + 12)
      (omega arith) (omega arith) (omega arith) (omega arith) y

  second_columns : (y : List (List ℕ)) → add_key (second_half key) y ≡ at_columns (λ m. key_column keys (m + 16)) y
  second_columns y =
      add_key_columns (second_half key) keys (at + 16) (second_half_at keys i) (at + 16) (at + 4 + 16) (at + 8 + 16) (at + 12 + 16)
      (omega arith) (omega arith) (omega arith) (omega arith) y

  key_steps : at_columns (key_column keys) x ≡ add_key (first_half key) x
  key_steps = sym (first_columns x)

  xs_steps : at_columns (xs_column keys) x ≡ XS key x
  unfolding XS S MDSL s_column
  xs_steps =
      sym (ap (λ (y : List (List ℕ)). S (add_key (second_half key) (MDSL (S y)))) (first_columns x)
      ∙ ap S (second_columns (MDSL (S (at_columns (key_column keys) x)))))

  xs_steps⁻ : at_columns (xs_column⁻ keys) x ≡ XS⁻ key x
  unfolding XS⁻ S⁻ MDSL⁻ s_column⁻
  xs_steps⁻ =
      sym (ap (λ (y : List (List ℕ)). add_key (first_half key) (S⁻ (MDSL⁻ y))) (second_columns (S⁻ x))
      ∙ first_columns (S⁻ (MDSL⁻ (at_columns (λ m. key_column keys (m + 16)) (S⁻ x)))))

  pub key_columns : {y0 y1 y2 y3 : List ℕ} → y0 ≡ key_column keys at (get_or x 0 []) → y1 ≡ key_column keys (at + 4) (get_or x 1 [])
      → y2 ≡ key_column keys (at + 8) (get_or x 2 []) → y3 ≡ key_column keys (at + 12) (get_or x 3 []) → y0 ∷ y1 ∷ y2 ∷ y3 ∷ [] ≡ add_key (first_half key) x
  key_columns e0 e1 e2 e3 = computed (key_column keys) e0 e1 e2 e3 ∙ key_steps

  pub xs_columns : {y0 y1 y2 y3 : List ℕ} → y0 ≡ xs_column keys at (get_or x 0 []) → y1 ≡ xs_column keys (at + 4) (get_or x 1 [])
      → y2 ≡ xs_column keys (at + 8) (get_or x 2 []) → y3 ≡ xs_column keys (at + 12) (get_or x 3 []) → y0 ∷ y1 ∷ y2 ∷ y3 ∷ [] ≡ XS key x
  xs_columns e0 e1 e2 e3 = computed (xs_column keys) e0 e1 e2 e3 ∙ xs_steps

  pub xs_columns⁻ : {y0 y1 y2 y3 : List ℕ} → y0 ≡ xs_column⁻ keys at (get_or x 0 []) → y1 ≡ xs_column⁻ keys (at + 4) (get_or x 1 [])
      → y2 ≡ xs_column⁻ keys (at + 8) (get_or x 2 []) → y3 ≡ xs_column⁻ keys (at + 12) (get_or x 3 []) → y0 ∷ y1 ∷ y2 ∷ y3 ∷ [] ≡ XS⁻ key x
  xs_columns⁻ e0 e1 e2 e3 = computed (xs_column⁻ keys) e0 e1 e2 e3 ∙ xs_steps⁻
