-- Rounds by their numbers: the loops that make them, and how they are undone.
use mathlib.Core.Path.{◌≡◌, refl, sym, ap, ◌∙◌}
use mathlib.Core.List.{List}
use Prim.Native.Nat.{ℕ, zero, suc, ◌+◌, ◌-◌, ◌≤◌, ◌<◌}
use native.Mathlib.Nat.{le-suc, le_trans, suc-sub-suc, sub-zero}
use native.Mathlib.Numerals.{add-one}
use native.Mathlib.Omega.{arith}
use Rattle.laws.specs.Places.{tab}
use Rattle.laws.specs.Rounds.{steps, back, run}
use Rattle.laws.proofs.Places.{tab_from-suc}

module _ {A : Type 0} where
  -- ---- the loop `q = f(i, q); i += 1;`, from a: its invariant
  pub record Stepped (f : ℕ → A → A) (a : A) (i : ℕ) (q : A) : Type 0 where
    pub is : q ≡ steps i f a

  pub steps_start : (f : ℕ → A → A) (a : A) → Stepped f a 0 a
  steps_start f a = record { is = refl }

  pub steps_step : {f : ℕ → A → A} {a : A} {i : ℕ} {q r : A} → Stepped f a i q → r ≡ f i q → Stepped f a (i + 1) r
  steps_step {f} {a} {i} e d = record { is = d ∙ ap (f i) e.is ∙ ap (λ (n : ℕ). steps n f a) (sym (add-one i)) }

  pub steps_end : {f : ℕ → A → A} {a : A} {i : ℕ} {q : A} (n : ℕ) → Stepped f a i q → i ≤ n → n ≤ i → q ≡ steps n f a
  steps_end {f} {a} {i} n e h l = let d : i ≡ n = omega arith in e.is ∙ ap (λ (m : ℕ). steps m f a) d

  -- ---- the loop `i -= 1; q = g(i, q);`, towards t: its invariant
  pub record Falling (g : ℕ → A → A) (t : A) (i : ℕ) (q : A) : Type 0 where
    pub is : back i g q ≡ t

  pub back_start : (g : ℕ → A → A) (a : A) (n : ℕ) → Falling g (back n g a) n a
  back_start g a n = record { is = refl }

  pub back_step : {g : ℕ → A → A} {t : A} {i : ℕ} {q r : A} → Falling g t i q → 0 < i → r ≡ g (i - 1) q → Falling g t (i - 1) r
  back_step {g} {t} {i} {q} {r} e h d =
      let p : suc (i - 1) ≡ i = omega arith in
      record { is = ap (back (i - 1) g) d ∙ ap (λ (n : ℕ). back n g q) p ∙ e.is }

  pub back_end : {g : ℕ → A → A} {t : A} {i : ℕ} {q : A} → Falling g t i q → i ≤ 0 → q ≡ t
  back_end {g} {t} {i} {q} e h = let d : 0 ≡ i = omega arith in ap (λ (n : ℕ). back n g q) d ∙ e.is

  -- the first round first
  pub steps_front : (n : ℕ) (f : ℕ → A → A) (a : A) → steps (suc n) f a ≡ steps n (λ j. f (suc j)) (f 0 a)
  steps_front zero f a = refl
  steps_front (suc n) f a = ap (f (suc n)) (steps_front n f a)

  -- what each round keeps, the rounds keep
  pub steps_keep : (P : A → Type 0) (n : ℕ) (f : ℕ → A → A) → ((i : ℕ) (a : A) → i < n → P a → P (f i a)) → (a : A) → P a → P (steps n f a)
  steps_keep P zero f h a p = p
  steps_keep P (suc n) f h a p =
      h n (steps n f a) (omega arith) (steps_keep P n f (λ i b l q. h i b (le_trans l (le-suc n)) q) a p)

pub ruleset loops = (steps_start, steps_step, back_start, back_step, back_end)

-- ---- rounds that undo themselves: m undoes m, and u i undoes t i. n rounds m (t i a), with t n at the end, are undone by n rounds that take the u backwards,
-- m (u (n - i) a), with u 0 at the end
module _ {A : Type 0} (P : A → Type 0) (m : A → A) (t u : ℕ → A → A) (m-keeps : (a : A) → P a → P (m a)) (m-m : (a : A) → P a → m (m a) ≡ a) where
  abbrev rounds : ℕ → A → A
  rounds n a = steps n (λ i q. m (t i q)) a

  abbrev rounds⁻ : ℕ → A → A
  rounds⁻ n a = steps n (λ i q. m (u (n - i) q)) a

  -- the first of the rounds backwards, and the others
  rounds⁻_front : (n : ℕ) (a : A) → rounds⁻ (suc n) a ≡ rounds⁻ n (m (u (suc n) a))
  rounds⁻_front n a =
      steps_front n (λ i q. m (u (suc n - i) q)) a
      ∙ (λ i. steps n (λ j q. m (u (suc-sub-suc n j i) q)) (m (u (sub-zero (suc n) i) a)))

  module _ (t-keeps : (i : ℕ) (a : A) → P a → P (t i a)) (u-t : (i : ℕ) (a : A) → P a → u i (t i a) ≡ a) where
    half_way : (n : ℕ) (a : A) → P a → rounds⁻ n (t n (rounds n a)) ≡ t 0 a
    half_way zero a p = refl
    half_way (suc n) a p =
        let y : A = rounds n a in
        let py : P y = steps_keep P n (λ i q. m (t i q)) (λ i b l q. m-keeps (t i b) (t-keeps i b q)) a p in
        rounds⁻_front n (t (suc n) (m (t n y)))
        ∙ ap (λ (q : A). rounds⁻ n (m q)) (u-t (suc n) (m (t n y)) (m-keeps (t n y) (t-keeps n y py)))
        ∙ ap (rounds⁻ n) (m-m (t n y) (t-keeps n y py))
        ∙ half_way n a p

    pub mirrored_undo : (n : ℕ) (a : A) → P a → u 0 (rounds⁻ n (t n (rounds n a))) ≡ a
    mirrored_undo n a p = ap (u 0) (half_way n a p) ∙ u-t 0 a p

  module _ (u-keeps : (i : ℕ) (a : A) → P a → P (u i a)) (t-u : (i : ℕ) (a : A) → P a → t i (u i a) ≡ a) where
    half_way_back : (n : ℕ) (a : A) → P a → rounds n (u 0 (rounds⁻ n a)) ≡ u n a
    half_way_back zero a p = refl
    half_way_back (suc n) a p =
        let y : A = m (u (suc n) a) in
        let py : P y = m-keeps (u (suc n) a) (u-keeps (suc n) a p) in
        ap (λ (q : A). rounds (suc n) (u 0 q)) (rounds⁻_front n a)
        ∙ ap (λ (q : A). m (t n q)) (half_way_back n y py)
        ∙ ap m (t-u n y py)
        ∙ m-m (u (suc n) a) (u-keeps (suc n) a p)

    pub mirrored_redo : (n : ℕ) (a : A) → P a → t n (rounds n (u 0 (rounds⁻ n a))) ≡ a
    mirrored_redo n a p = ap (t n) (half_way_back n a p) ∙ t-u n a p

-- ---- rounds over a table of keys are rounds by their numbers
pub run-tab : {A K : Type 0} (f : K → A → A) (n : ℕ) (k : ℕ → K) (a : A) → run f (tab n k) a ≡ steps n (λ i. f (k i)) a
run-tab f zero k a = refl
run-tab {A} {K} f (suc n) k a =
    ap (λ (ks : List K). run f ks (f (k 0) a)) (tab_from-suc k 0 n)
    ∙ run-tab f n (λ j. k (suc j)) (f (k 0) a)
    ∙ sym (steps_front n (λ i. f (k i)) a)
