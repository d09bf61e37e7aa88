-- The intermediate keys are symmetric about t_turn (002, section 2.3), since σ⁻ undoes σ and the constants of tables 1 to 3 are.
use mathlib.Core.Path.{◌≡◌, ap, ◌∙◌, subst⁻¹}
use mathlib.Core.Bool.{Bool}
use mathlib.Core.Logic.{⊎_elim}
use mathlib.Core.List.{List}
use Prim.Native.Nat.{ℕ, zero, suc, ◌+◌, ◌-◌, ◌*◌, ◌≤◌, ◌<◌}
use native.Mathlib.Omega.{arith}
use lib.Dec as dec
use lib.Dec.{eqb, eqb→eq, lit≤}
use lib.ListN.{length, get_or}
use borrow.Author.Tests.{le-leb, lt-leb}
use Rattle.laws.specs.Choice.{choose}
use Rattle.laws.specs.Places.{tab}
use Rattle.laws.specs.Bytes.{Bytes}
use Rattle.laws.proofs.Table.{every, table_at}
use Rattle.words.specs.KeyLength.{KeyLength}
use Rattle.hierocrypt3_tables.specs.Constants.{G0, row, constant}
use Rattle.hierocrypt3_steps.specs.Rounds.{T}
use Rattle.hierocrypt3_keys.specs.Keys.{t_turn, σ, σ⁻, next, Z}
use Rattle.hierocrypt3_keys.proofs.KeyLengths.{key_lengths}
use Rattle.hierocrypt3_undo.proofs.Sigma.{σ_inverse}
use Rattle.hierocrypt3_undo.proofs.KeyBytes.{constant_bytes, Z_pieces}

-- ---- step t_turn + d + 1 takes the constant of step t_turn - d
abbrev Mirrored : ℕ → Type 0
Mirrored len = (d : ℕ) → t_turn len + d < T len + 1 → get_or (row len) (t_turn len + d) 0 ≡ get_or (row len) (t_turn len - d - 1) 0

module _ (len : ℕ) where
  same : ℕ → ℕ → Bool
  same d x = eqb (get_or (row len) (t_turn len + d) 0) (get_or (row len) (t_turn len - d - 1) 0)

  by_test : (places : List ℕ) → dec.T (every same 0 places) → (d : ℕ) → d < length places
      → get_or (row len) (t_turn len + d) 0 ≡ get_or (row len) (t_turn len - d - 1) 0
  unfolding same
  by_test places t d h = eqb→eq (get_or (row len) (t_turn len + d) 0) (get_or (row len) (t_turn len - d - 1) 0) (table_at same places t d h)

-- what holds at each of the three lengths
by_lengths : (Q : ℕ → Type 0) → Q 16 → Q 24 → Q 32 → (len : ℕ) → KeyLength len → Q len
by_lengths Q p q r len h = ⊎_elim (λ e. subst⁻¹ Q e p) (⊎_elim (λ e. subst⁻¹ Q e q) (λ e. subst⁻¹ Q e r)) (key_lengths len h)

rows_mirrored : (len : ℕ) → KeyLength len → Mirrored len
unfolding same
rows_mirrored =
    by_lengths Mirrored (λ d l. by_test 16 (tab 3 (λ j. j)) tt d (omega arith)) (λ d l. by_test 24 (tab 4 (λ j. j)) tt d (omega arith))
    (λ d l. by_test 32 (tab 4 (λ j. j)) tt d (omega arith))

-- no further behind t_turn than before it
turn_late : (len : ℕ) → KeyLength len → T len + 1 ≤ 2 * t_turn len
turn_late = by_lengths (λ (len : ℕ). T len + 1 ≤ 2 * t_turn len) (lit≤ tt) (lit≤ tt) (lit≤ tt)

-- ---- the keys
module _ (key : List ℕ) (legal : KeyLength (length key)) (w : Bytes (length key) key) where
  abbrev len : ℕ
  len = length key

  abbrev m : ℕ
  m = t_turn len

  step_forth : (t : ℕ) → t < m → Z key (suc t) ≡ σ (constant len (suc t)) (Z key t)
  unfolding Z next
  step_forth t h = ap (λ (b : Bool). choose b (σ (constant len (suc t)) (Z key t)) (σ⁻ (constant len (suc t)) (Z key t))) (le-leb (suc t) m (omega arith))

  step_back : (t : ℕ) → m ≤ t → Z key (suc t) ≡ σ⁻ (constant len (suc t)) (Z key t)
  unfolding Z next
  step_back t h = ap (λ (b : Bool). choose b (σ (constant len (suc t)) (Z key t)) (σ⁻ (constant len (suc t)) (Z key t))) (lt-leb (suc t) m (omega arith))

  about : (d : ℕ) → m + d ≤ T len + 1 → Z key (m + d) ≡ Z key (m - d)
  about zero h =
      let e : m + zero ≡ m - zero = omega arith in
      ap (Z key) e
  about (suc d) h =
      let late : T len + 1 ≤ 2 * m = turn_late len legal in
      let before : ℕ = m - suc d in
      let e : m + suc d ≡ suc (m + d) = omega arith in
      let f : m - d ≡ suc before = omega arith in
      let i : suc (m + d) - 1 ≡ m + d = omega arith in
      let j : m - d - 1 ≡ suc before - 1 = omega arith in
      let g : constant len (suc (m + d)) ≡ constant len (suc before) =
      ap (λ (n : ℕ). G0 (get_or (row len) n 0)) i ∙ ap G0 (rows_mirrored len legal d (omega arith)) ∙ ap (λ (n : ℕ). G0 (get_or (row len) n 0)) j in
      ap (Z key) e
      ∙ step_back (m + d) (omega arith)
      ∙ ap (σ⁻ (constant len (suc (m + d)))) (about d (omega arith) ∙ ap (Z key) f ∙ step_forth before (omega arith))
      ∙ ap (λ (k : List ℕ). σ⁻ k (σ (constant len (suc before)) (Z key before))) g
      ∙ (σ_inverse (constant len (suc before)) (constant_bytes len (suc before))).undo (Z key before) (Z_pieces len key w before)

  pub Z_symmetric : (t : ℕ) → t_turn len + 1 ≤ t → t ≤ T len + 1 → Z key t ≡ Z key (2 * t_turn len - t)
  Z_symmetric t h l =
      let late : T len + 1 ≤ 2 * m = turn_late len legal in
      let d : ℕ = t - m in
      let e : t ≡ m + d = omega arith in
      let f : m - d ≡ 2 * m - t = omega arith in
      ap (Z key) e ∙ about d (omega arith) ∙ ap (Z key) f
