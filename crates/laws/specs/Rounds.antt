-- Rounds by their numbers, and a Feistel network over a list of keys.
use Rattle.std.specs.Prelude.{List, [], ◌∷◌, ◌++◌, ℕ, zero, suc}

-- f 0, then f 1, .. then f (n - 1)
abbrev pub steps : {A : Type 0} → ℕ → (ℕ → A → A) → A → A
steps zero f a = a
steps (suc n) f a = f n (steps n f a)

-- g (n - 1), .. then g 1, then g 0
abbrev pub back : {A : Type 0} → ℕ → (ℕ → A → A) → A → A
back zero g a = a
back (suc n) g a = back n g (g n a)

-- one round for each key, the list's first key first
abbrev pub run : {A K : Type 0} → (K → A → A) → List K → A → A
run f [] a = a
run f (k ∷ ks) a = run f ks (f k a)

-- the keys in the other order
abbrev pub reversed : {K : Type 0} → List K → List K
reversed [] = []
reversed (k ∷ ks) = reversed ks ++ (k ∷ [])

-- L := L + F(R, k), and the halves change places; after the last round they don't
module _ {A : Type 0} {K : Type 0} (F : A → K → A) (◌+◌ : A → A → A) where
  abbrev pub swapped : A × A → A × A
  swapped p = (p.1, p.0)

  abbrev pub half : K → A × A → A × A
  half k p = (◌+◌ p.0 (F p.1 k), p.1)

  abbrev pub feistel : List K → A × A → A × A
  feistel ks p = swapped (run (λ k q. swapped (half k q)) ks p)
