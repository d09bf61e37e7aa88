-- Rounds over a list of keys, and a Feistel network, which is undone by itself with the keys in the other order.
use mathlib.Core.Path.{◌≡◌, refl, ap, ◌∙◌}
use mathlib.Core.List.{List, [], ◌∷◌, ◌++◌}
use Rattle.laws.specs.Rounds.{run, reversed, swapped, half, feistel}

pub run-append : {A K : Type 0} (f : K → A → A) (ks js : List K) (a : A) → run f (ks ++ js) a ≡ run f js (run f ks a)
run-append f [] js a = refl
run-append f (k ∷ ks) js a = run-append f ks js (f k a)

reversed_end : {K : Type 0} (ks : List K) (k : K) → reversed (ks ++ (k ∷ [])) ≡ k ∷ reversed ks
reversed_end [] k = refl
reversed_end (j ∷ ks) k = ap (λ l. l ++ (j ∷ [])) (reversed_end ks k)

pub reversed-reversed : {K : Type 0} (ks : List K) → reversed (reversed ks) ≡ ks
reversed-reversed [] = refl
reversed-reversed (k ∷ ks) = reversed_end (reversed ks) k ∙ ap (λ l. k ∷ l) (reversed-reversed ks)

module _ {A : Type 0} {K : Type 0} (F : A → K → A) (◌+◌ : A → A → A) (P : A → Type 0)
    (keeps : (k : K) (l r : A) → P l → P r → P (◌+◌ l (F r k)))
    (cancel : (k : K) (l r : A) → P l → P r → ◌+◌ (◌+◌ l (F r k)) (F r k) ≡ l) where
  abbrev round : K → A × A → A × A
  round k p = swapped F ◌+◌ (half F ◌+◌ k p)

  abbrev Halves : A × A → Type 0
  Halves p = P p.0 × P p.1

  pub feistel_keeps : (ks : List K) (p : A × A) → Halves p → Halves (feistel F ◌+◌ ks p)
  feistel_keeps [] p h = (h.1, h.0)
  feistel_keeps (k ∷ ks) p h = feistel_keeps ks (round k p) (h.1, keeps k p.0 p.1 h.0 h.1)

  there : (ks : List K) (p : A × A) → Halves p → run round (reversed ks) (feistel F ◌+◌ ks p) ≡ swapped F ◌+◌ p
  there [] p h = refl
  there (k ∷ ks) p h =
      run-append round (reversed ks) (k ∷ []) (feistel F ◌+◌ ks (round k p))
      ∙ ap (round k) (there ks (round k p) (h.1, keeps k p.0 p.1 h.0 h.1))
      ∙ (λ i. (p.1, cancel k p.0 p.1 h.0 h.1 i))

  pub feistel_undo : (ks : List K) (p : A × A) → Halves p → feistel F ◌+◌ (reversed ks) (feistel F ◌+◌ ks p) ≡ p
  feistel_undo ks p h = ap (swapped F ◌+◌) (there ks p h)
