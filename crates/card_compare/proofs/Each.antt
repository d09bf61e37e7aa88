-- `each` over a run of numbers: cut in two, where there is nothing, and by rows.
use mathlib.Core.Path.{◌≡◌, refl, sym, ap, ap₂, ◌∙◌}
use mathlib.Core.List.{List, [], ◌++◌, append_assoc, append-nil}
use Prim.Native.Nat.{ℕ, zero, suc, ◌+◌, ◌-◌, ◌*◌, ◌≤◌, ◌<◌}
use native.Mathlib.Omega.{arith}
use native.Mathlib.Nat.{suc-mul, zero-mul}
use Rattle.card_compare.specs.Compare.{each}

module _ {A : Type 0} (f : ℕ → List A) where
  each_add : (k n m : ℕ) → each f k (n + m) ≡ each f k n ++ each f (k + n) m
  each_add k zero m =
      let a : 0 + m ≡ m = omega arith in
      let b : k + 0 ≡ k = omega arith in
      rw (a, b)
  each_add k (suc n) m =
      let a : suc n + m ≡ suc (n + m) = omega arith in
      let b : k + suc n ≡ suc k + n = omega arith in
      rw (a, b) (ap (λ (l : List A). f k ++ l) (each_add (suc k) n m) ∙ sym (append_assoc (f k) (each f (suc k) n) (each f (suc k + n) m)))

  -- the same numbers b further on
  each_shift : (g : ℕ → List A) (b k n : ℕ) → ((j : ℕ) → k ≤ j → j < k + n → f (b + j) ≡ g j) → each f (b + k) n ≡ each g k n
  each_shift g b k zero h = refl
  each_shift g b k (suc n) h =
      let e : suc (b + k) ≡ b + suc k = omega arith in
      ap₂ ◌++◌ (h k (omega arith) (omega arith))
      (ap (λ (m : ℕ). each f m n) e ∙ each_shift g b (suc k) n (λ j l u. h j (omega arith) (omega arith)))

  pub each_nothing : (k n : ℕ) → ((j : ℕ) → k ≤ j → j < k + n → f j ≡ []) → each f k n ≡ []
  each_nothing k zero h = refl
  each_nothing k (suc n) h = ap₂ ◌++◌ (h k (omega arith) (omega arith)) (each_nothing (suc k) n (λ j l u. h j (omega arith) (omega arith)))

  -- from k up to e: what is at x, if there is nothing before it
  pub each_next : (k x e : ℕ) → k ≤ x → x < e → ((j : ℕ) → k ≤ j → j < x → f j ≡ []) → each f k (e - k) ≡ f x ++ each f (x + 1) (e - (x + 1))
  each_next k x e l u h =
      let a : e - k ≡ (x - k) + suc (e - (x + 1)) = omega arith in
      let b : k + (x - k) ≡ x = omega arith in
      let c : suc x ≡ x + 1 = omega arith in
      ap (each f k) a
      ∙ each_add k (x - k) (suc (e - (x + 1)))
      ∙ ap₂ ◌++◌ (each_nothing k (x - k) (λ j p q. h j p (omega arith))) (ap (λ (y : ℕ). each f y (suc (e - (x + 1)))) b)
      ∙ ap (λ (y : ℕ). f x ++ each f y (e - (x + 1))) c

  -- nothing at 0, and nothing past h
  pub each_inside : (w h : ℕ) → h < w → f 0 ≡ [] → ((j : ℕ) → h < j → f j ≡ []) → each f 0 w ≡ each f 1 h
  each_inside w h l z u =
      let e : w ≡ suc (h + (w - suc h)) = omega arith in
      ap (each f 0) e
      ∙ ap₂ ◌++◌ z (each_add 1 h (w - suc h))
      ∙ ap (λ (r : List A). each f 1 h ++ r) (each_nothing (1 + h) (w - suc h) (λ j m q. u j (omega arith)))
      ∙ append-nil (each f 1 h)

  -- rows of w numbers
  pub each_rows : (g : ℕ → ℕ → List A) (w : ℕ) → ((r s : ℕ) → s < w → f (r * w + s) ≡ g r s) → (k n : ℕ)
      → each f (k * w) (n * w) ≡ each (λ r. each (g r) 0 w) k n
  each_rows g w h k zero = ap (each f (k * w)) (zero-mul w)
  each_rows g w h k (suc n) =
      let a : suc n * w ≡ w + n * w = suc-mul n w ∙ omega arith in
      let b : k * w + w ≡ suc k * w = sym (suc-mul k w) in
      let c : k * w ≡ k * w + 0 = omega arith in
      ap (each f (k * w)) a
      ∙ each_add (k * w) w (n * w)
      ∙ ap₂ ◌++◌ (ap (λ (m : ℕ). each f m w) c ∙ each_shift (g k) (k * w) 0 w (λ s l u. h k s (omega arith)))
      (ap (λ (m : ℕ). each f m (n * w)) b ∙ each_rows g w h (suc k) n)
