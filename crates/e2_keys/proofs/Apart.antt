-- Values put into a list 32 places apart: its length, and what then stands at each place.
use mathlib.Core.Path.{◌≡◌, refl, ap, ◌∙◌}
use mathlib.Core.List.{List, [], ◌∷◌}
use Prim.Native.Nat.{ℕ, zero, suc, ◌+◌, ◌*◌, ◌/◌, ◌%◌, ◌≤◌, ◌<◌}
use native.Mathlib.Decide.{ℕ_discrete}
use native.Mathlib.Omega.{arith}
use lib.ListN.{length, get_or, set, length-set}
use lib.Seq.{get_or-set_same, get_or-set_other}
use Rattle.e2_keys.specs.code.Layout.{apart}

pub apart_long : (r : List ℕ) (n : ℕ) (xs : List ℕ) → length (apart r n xs) ≡ length r
apart_long r n [] = refl
apart_long r n (x ∷ xs) = apart_long (set r n x) (n + 32) xs ∙ length-set r n x

untouched : (r : List ℕ) (n : ℕ) (xs : List ℕ) (m : ℕ) → ((p : ℕ) → p < length xs → m ≡ n + 32 * p → ⊥) → get_or (apart r n xs) m 0 ≡ get_or r m 0
untouched r n [] m h = refl
untouched r n (x ∷ xs) m h =
    untouched (set r n x) (n + 32) xs m (λ p l e. h (suc p) (omega arith) (omega arith))
    ∙ get_or-set_other r n m x 0 (λ e. h 0 (omega arith) (omega arith))

touched : (r : List ℕ) (n : ℕ) (xs : List ℕ) (p : ℕ) → p < length xs → n + 32 * p < length r → get_or (apart r n xs) (n + 32 * p) 0 ≡ get_or xs p 0
touched r n [] p l h = elim l [ ]
touched r n (x ∷ xs) zero l h =
    ap (λ (m : ℕ). get_or (apart (set r n x) (n + 32) xs) m 0) (omega arith)
    ∙ untouched (set r n x) (n + 32) xs n (λ p k e. omega arith)
    ∙ get_or-set_same r n x 0 (omega arith)
touched r n (x ∷ xs) (suc p) l h =
    let e = length-set r n x in
    ap (λ (m : ℕ). get_or (apart (set r n x) (n + 32) xs) m 0) (omega arith)
    ∙ touched (set r n x) (n + 32) xs p (omega arith) (omega arith)

-- eight of them, from a place below 32 on
module _ (r : List ℕ) (a : ℕ) (xs : List ℕ) (eight : length xs ≡ 8) (low : a < 32) (m : ℕ) where
  put_other : (m < 256 → m % 32 ≡ a → ⊥) → get_or (apart r a xs) m 0 ≡ get_or r m 0
  put_other h = untouched r a xs m (λ p l e. h (omega arith) (omega arith))

  pub put_behind : 256 ≤ m → get_or (apart r a xs) m 0 ≡ get_or r m 0
  put_behind h = put_other (λ l e. omega arith)

  -- what is right of the place whether it is one of them or not
  pub put_at : (v : ℕ) → 256 ≤ length r → m < 256 → (m % 32 ≡ a → get_or xs (m / 32) 0 ≡ v) → ((m % 32 ≡ a → ⊥) → get_or r m 0 ≡ v)
      → get_or (apart r a xs) m 0 ≡ v
  put_at v long h one none = by_place (ℕ_discrete (m % 32) a)
    where
      by_place : Dec (m % 32 ≡ a) → get_or (apart r a xs) m 0 ≡ v
      by_place (yes e) =
          let place : m ≡ a + 32 * (m / 32) = omega arith in
          ap (λ (n : ℕ). get_or (apart r a xs) n 0) place ∙ touched r a xs (m / 32) (omega arith) (omega arith) ∙ one e
      by_place (no n) = put_other (λ l. n) ∙ none n
