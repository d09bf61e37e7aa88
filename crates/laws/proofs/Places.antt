-- What `tab`, `layer`, `permute` and `Each` obey, and the loop that writes a list place by place.
use mathlib.Core.Path.{◌≡◌, refl, sym, ap, ap₂, ◌∙◌, subst}
use mathlib.Core.Bool.{Bool, true}
use mathlib.Core.List.{List, [], ◌∷◌}
use Prim.Native.Nat.{ℕ, zero, suc, ◌+◌, ◌≤◌, ◌<◌}
use native.Mathlib.Nat.{add-zero, zero-add, le_of_suc-le-suc, not-suc-le-zero}
use native.Mathlib.Decide.{ℕ_discrete}
use native.Mathlib.Omega.{arith}
use lib.Dec.{T, eqb, eqb→eq, ltb, ltb→lt}
use lib.ListN.{length, get_or, set, length-set}
use lib.Seq.{ext_get_or, get_or-set_same, get_or-set_other}
use Rattle.laws.specs.Places.{tab, tabFrom, layer, permute, Each}
use Rattle.laws.proofs.Test.{both, both_left, both_right}

module _ {A : Type 0} where
  -- ---- tab
  length-tab_from : (f : ℕ → A) (i n : ℕ) → length (tabFrom f i n) ≡ n
  length-tab_from f i zero = refl
  length-tab_from f i (suc n) = ap suc (length-tab_from f (suc i) n)

  pub length-tab : (n : ℕ) (f : ℕ → A) → length (tab n f) ≡ n
  length-tab n f = length-tab_from f 0 n

  get_or-tab_from : (f : ℕ → A) (i n j : ℕ) (d : A) → j < n → get_or (tabFrom f i n) j d ≡ f (i + j)
  get_or-tab_from f i zero j d h = absurd (not-suc-le-zero h)
  get_or-tab_from f i (suc n) zero d h = ap f (sym (add-zero i))
  get_or-tab_from f i (suc n) (suc j) d h = get_or-tab_from f (suc i) n j d (le_of_suc-le-suc h) ∙ ap f (omega arith)

  pub get_or-tab : (n : ℕ) (f : ℕ → A) (j : ℕ) (d : A) → j < n → get_or (tab n f) j d ≡ f j
  get_or-tab n f j d h = get_or-tab_from f 0 n j d h ∙ ap f (zero-add j)

  pub tab_from-suc : (f : ℕ → A) (i n : ℕ) → tabFrom f (suc i) n ≡ tabFrom (λ j. f (suc j)) i n
  tab_from-suc f i zero = refl
  tab_from-suc f i (suc n) = ap (λ (l : List A). f (suc i) ∷ l) (tab_from-suc f (suc i) n)

  -- a list of n values is the table of them
  pub tab_is : (n : ℕ) (f : ℕ → A) (d : A) (l : List A) → length l ≡ n → ((j : ℕ) → j < n → get_or l j d ≡ f j) → l ≡ tab n f
  tab_is n f d l e h =
      ext_get_or d l (tab n f) (e ∙ sym (length-tab n f))
      (λ j lt. let k : j < n = subst (λ (m : ℕ). j < m) e lt in h j k ∙ sym (get_or-tab n f j d k))

  pub tab_self : (n : ℕ) (d : A) (l : List A) → length l ≡ n → l ≡ tab n (λ j. get_or l j d)
  tab_self n d l e = tab_is n (λ j. get_or l j d) d l e (λ j h. refl)

  -- two tables are equal where their values are
  pub tab_equal : (n : ℕ) (f g : ℕ → A) → A → ((j : ℕ) → j < n → f j ≡ g j) → tab n f ≡ tab n g
  tab_equal n f g d h = tab_is n g d (tab n f) (length-tab n f) (λ j l. get_or-tab n f j d l ∙ h j l)

  -- ---- Each
  pub each_tab : (P : A → Type 0) (d : A) (n : ℕ) (f : ℕ → A) → ((j : ℕ) → j < n → P (f j)) → Each P d n (tab n f)
  each_tab P d n f h = record { long = length-tab n f; each = λ j l. subst P (sym (get_or-tab n f j d l)) (h j l) }

  pub each_head : {P : A → Type 0} {d : A} {n : ℕ} {x : A} {xs : List A} → Each P d (suc n) (x ∷ xs) → P x
  each_head w = w.each 0 (omega arith)

  pub each_tail : {P : A → Type 0} {d : A} {n : ℕ} {x : A} {xs : List A} → Each P d (suc n) (x ∷ xs) → Each P d n xs
  each_tail w = let e = w.long in record { long = omega arith; each = λ j h. w.each (suc j) (omega arith) }

  pub each_cons : {P : A → Type 0} {d : A} {n : ℕ} {x : A} {xs : List A} → P x → Each P d n xs → Each P d (suc n) (x ∷ xs)
  each_cons {P} {d} {n} {x} {xs} p w = record { long = ap suc w.long; each = at_j }
    where
      at_j : (j : ℕ) → j < suc n → P (get_or (x ∷ xs) j d)
      at_j zero h = p
      at_j (suc j) h = w.each j (le_of_suc-le-suc h)

  -- ---- the loop `while i < n { r[i] = f(i); i += 1; }`: its invariant
  pub record Filled (n : ℕ) (f : ℕ → A) (d : A) (i : ℕ) (r : List A) : Type 0 where
    pub long : length r ≡ n
    pub done : (j : ℕ) → j < i → get_or r j d ≡ f j

  pub fill_start : (n : ℕ) (f : ℕ → A) (d : A) (r : List A) → length r ≡ n → Filled n f d 0 r
  fill_start n f d r e = record { long = e; done = λ j h. absurd (not-suc-le-zero h) }

  pub fill_step : {n : ℕ} {f : ℕ → A} {d : A} {i : ℕ} {r : List A} (v : A) → Filled n f d i r → i < n → v ≡ f i → Filled n f d (i + 1) (set r i v)
  fill_step {n} {f} {d} {i} {r} v w h e =
      record {
        long = length-set r i v ∙ w.long;
        done = λ j lt. at_j j lt (ℕ_discrete j i);
      }
    where
      at_j : (j : ℕ) → j < i + 1 → Dec (j ≡ i) → get_or (set r i v) j d ≡ f j
      at_j j lt (yes p) =
          ap (λ (m : ℕ). get_or (set r i v) m d) p
          ∙ get_or-set_same r i v d (subst (λ (m : ℕ). i < m) (sym w.long) h) ∙ e ∙ ap f (sym p)
      at_j j lt (no q) = get_or-set_other r i j v d q ∙ w.done j (omega arith)

  pub fill_end : {n : ℕ} {f : ℕ → A} {d : A} {i : ℕ} {r : List A} → Filled n f d i r → n ≤ i → r ≡ tab n f
  fill_end {n} {f} {d} {i} {r} w h = tab_is n f d r w.long (λ j lt. w.done j (omega arith))

-- ---- layer
pub layer_undo : {A B : Type 0} (n : ℕ) (d : A) (e : B) (f : ℕ → A → B) (g : ℕ → B → A) (xs : List A) → length xs ≡ n
    → ((j : ℕ) → j < n → g j (f j (get_or xs j d)) ≡ get_or xs j d) → layer n e g (layer n d f xs) ≡ xs
layer_undo n d e f g xs l u =
    sym (tab_is n (λ j. g j (get_or (layer n d f xs) j e)) d xs l
    (λ j h. sym (ap (g j) (get_or-tab n (λ i. f i (get_or xs i d)) j e h) ∙ u j h)))

-- ---- permute: the places `to` undo the places `from` where place k of the two together is k, for each k; that is a computed test
abbrev pub undoes : List ℕ → List ℕ → ℕ → Bool
undoes from [] k = true
undoes from (q ∷ to) k = both (both (ltb q (length from)) (eqb (get_or from q 0) k)) (undoes from to (suc k))

module _ {A : Type 0} (d : A) where
  pub length-permute : (from : List ℕ) (xs : List A) → length (permute d from xs) ≡ length from
  length-permute [] xs = refl
  length-permute (i ∷ from) xs = ap suc (length-permute from xs)

  pub get_or-permute : (from : List ℕ) (xs : List A) (q : ℕ) → q < length from → get_or (permute d from xs) q d ≡ get_or xs (get_or from q 0) d
  get_or-permute [] xs q h = absurd (not-suc-le-zero h)
  get_or-permute (i ∷ from) xs zero h = refl
  get_or-permute (i ∷ from) xs (suc q) h = get_or-permute from xs q (le_of_suc-le-suc h)

  permute-from : (from to : List ℕ) (xs : List A) (k : ℕ) → T (undoes from to k)
      → permute d to (permute d from xs) ≡ tabFrom (λ j. get_or xs j d) k (length to)
  permute-from from [] xs k t = refl
  permute-from from (q ∷ to) xs k t =
      let here = both (ltb q (length from)) (eqb (get_or from q 0) k) in
      let t₁ = both_left here (undoes from to (suc k)) t in
      let t₂ = both_right here (undoes from to (suc k)) t in
      ap₂ (λ (a : A) (l : List A). a ∷ l)
      (get_or-permute from xs q (ltb→lt q (length from) (both_left (ltb q (length from)) (eqb (get_or from q 0) k) t₁))
      ∙ ap (λ (m : ℕ). get_or xs m d) (eqb→eq (get_or from q 0) k (both_right (ltb q (length from)) (eqb (get_or from q 0) k) t₁)))
      (permute-from from to xs (suc k) t₂)

  pub permute_undo : (from to : List ℕ) (xs : List A) → length xs ≡ length to → T (undoes from to 0) → permute d to (permute d from xs) ≡ xs
  permute_undo from to xs l t = permute-from from to xs 0 t ∙ sym (tab_self (length to) d xs l)

-- ---- within a list it does not matter what is read past its end
pub each_default : {A : Type 0} {P : A → Type 0} (d e : A) (n : ℕ) (xs : List A) → Each P d n xs → (j : ℕ) → j < n → P (get_or xs j e)
each_default d e zero xs w j h = absurd (not-suc-le-zero h)
each_default d e (suc n) [] w j h = let l = w.long in absurd (omega arith)
each_default d e (suc n) (x ∷ xs) w zero h = each_head w
each_default d e (suc n) (x ∷ xs) w (suc j) h = each_default d e n xs (each_tail w) j (le_of_suc-le-suc h)
