-- Lists by their places: a list of n values each given by its place, one function at every place, the places changed about, and what it is that every place holds.
use Rattle.std.specs.Prelude.{◌≡◌, List, [], ◌∷◌, ℕ, zero, suc, ◌+◌, ◌*◌, ◌/◌, ◌%◌, ◌<◌, length, get_or}

-- f i, f (i + 1), .. n of them
abbrev pub tabFrom {ℓ} : {A : Type ℓ} → (ℕ → A) → ℕ → ℕ → List A
tabFrom f i zero = []
tabFrom f i (suc n) = f i ∷ tabFrom f (suc i) n

-- f 0, f 1, .. f (n - 1)
abbrev pub tab {ℓ} : {A : Type ℓ} → ℕ → (ℕ → A) → List A
tab n f = tabFrom f 0 n

-- f j at place j, of n places. What is read past the end of the list is d
abbrev pub layer : {A B : Type 0} → ℕ → A → (ℕ → A → B) → List A → List B
layer n d f xs = tab n (λ j. f j (get_or xs j d))

-- n values from place `from` on
abbrev pub part : {A : Type 0} → A → ℕ → ℕ → List A → List A
part d from n xs = tab n (λ j. get_or xs (from + j) d)

-- a list as four parts of m values each, and the four joined again
abbrev pub quarters : {A : Type 0} → A → ℕ → List A → List (List A)
quarters d m xs = tab 4 (λ i. part d (i * m) m xs)

abbrev pub joined : {A : Type 0} → A → ℕ → List (List A) → List A
joined d m ys = tab (4 * m) (λ n. get_or (get_or ys (n / m) []) (n % m) d)

-- to place j comes what stands at the j-th place of `from`
abbrev pub permute : {A : Type 0} → A → List ℕ → List A → List A
permute d [] xs = []
permute d (i ∷ from) xs = get_or xs i d ∷ permute d from xs

-- n values, and P holds of each
pub record Each {A : Type 0} (P : A → Type 0) (d : A) (n : ℕ) (xs : List A) : Type 0 where
  pub long : length xs ≡ n
  pub each : (j : ℕ) → j < n → P (get_or xs j d)
