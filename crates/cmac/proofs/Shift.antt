-- X << 1 and doubling, byte by byte: the low seven bits of a byte go up by one, and the highest bit of the byte behind it comes in.
use mathlib.Core.Path.{◌≡◌, refl, ap, ap₂, ◌∙◌, sym}
use mathlib.Core.List.{List, [], ◌∷◌, ◌++◌}
use Prim.Native.Nat.{ℕ, zero, suc, ◌+◌, ◌*◌, ◌/◌, ◌%◌, ◌≤◌, ◌<◌}
use native.Mathlib.Omega.{arith}
use lib.ListN.{length, get_or, drop}
use borrow.Author.Tests.{eq-eqb, ne_eqb}
use Rattle.laws.specs.Bytes.{xor_l}
use Rattle.laws.specs.Places.{tab}
use Rattle.laws.proofs.Places.{tab_from-suc, tab_equal}
use Rattle.cmac.specs.Cmac.{bits, bytes, msb1, shl1, R128, doubled}

-- the byte that comes to place j
abbrev pub up_at : List ℕ → ℕ → ℕ
up_at x j = get_or x j 0 % 128 * 2 + get_or x (j + 1) 0 / 128 % 2

-- the same, by the list
abbrev ups : List ℕ → List ℕ
ups [] = []
ups (x ∷ xs) = (x % 128 * 2 + get_or xs 0 0 / 128 % 2) ∷ ups xs

-- the low seven bits, put together again one place higher
put_together : (b₆ b₅ b₄ b₃ b₂ b₁ b₀ r₇ r₆ r₅ r₄ r₃ r₂ t : ℕ) → r₇ ≡ b₆ * 64 + r₆ → r₆ ≡ b₅ * 32 + r₅ → r₅ ≡ b₄ * 16 + r₄
    → r₄ ≡ b₃ * 8 + r₃ → r₃ ≡ b₂ * 4 + r₂ → r₂ ≡ b₁ * 2 + b₀
    → b₆ * 128 + b₅ * 64 + b₄ * 32 + b₃ * 16 + b₂ * 8 + b₁ * 4 + b₀ * 2 + t ≡ r₇ * 2 + t
put_together b₆ b₅ b₄ b₃ b₂ b₁ b₀ r₇ r₆ r₅ r₄ r₃ r₂ t e₇ e₆ e₅ e₄ e₃ e₂ = omega arith

seven : (x t : ℕ)
    → x / 64 % 2 * 128 + x / 32 % 2 * 64 + x / 16 % 2 * 32 + x / 8 % 2 * 16 + x / 4 % 2 * 8 + x / 2 % 2 * 4 + x / 1 % 2 * 2 + t ≡ x % 128 * 2 + t
seven x t =
    put_together (x / 64 % 2) (x / 32 % 2) (x / 16 % 2) (x / 8 % 2) (x / 4 % 2) (x / 2 % 2) (x / 1 % 2)
    (x % 128) (x % 64) (x % 32) (x % 16) (x % 8) (x % 4) t
    (omega arith) (omega arith) (omega arith) (omega arith) (omega arith) (omega arith)

by_list : (x : List ℕ) → bytes (length x) (drop 1 (bits x) ++ 0 ∷ []) ≡ ups x
by_list [] = refl
by_list (x ∷ []) = ap (λ (v : ℕ). v ∷ []) (seven x 0)
by_list (x ∷ y ∷ ys) = ap₂ (λ (v : ℕ) (l : List ℕ). v ∷ l) (seven x (y / 128 % 2)) (by_list (y ∷ ys))

by_places : (n : ℕ) (l : List ℕ) → length l ≡ n → tab n (up_at l) ≡ ups l
by_places zero [] h = refl
by_places zero (x ∷ l) h = absurd (omega arith)
by_places (suc n) [] h = absurd (omega arith)
by_places (suc n) (x ∷ l) h =
    ap (λ (r : List ℕ). up_at (x ∷ l) 0 ∷ r)
    (tab_from-suc (up_at (x ∷ l)) 0 n
    ∙ tab_equal n (λ j. up_at (x ∷ l) (suc j)) (up_at l) 0
    (λ j k. let e : suc j + 1 ≡ suc (j + 1) = omega arith in ap (λ (i : ℕ). get_or l j 0 % 128 * 2 + get_or (x ∷ l) i 0 / 128 % 2) e)
    ∙ by_places n l (omega arith))

pub shl1_at : (n : ℕ) (x : List ℕ) → length x ≡ n → shl1 x ≡ tab n (up_at x)
unfolding shl1
shl1_at n x h = by_list x ∙ sym (by_places n x h)

-- ---- doubled, by the first byte
msb1_is : (x : List ℕ) → msb1 x ≡ get_or x 0 0 / 128 % 2
msb1_is [] = refl
msb1_is (x ∷ xs) = refl

pub doubled_low : (x : List ℕ) → get_or x 0 0 < 128 → doubled x ≡ shl1 x
unfolding doubled
doubled_low x h =
    let m = msb1_is x in
    let none : msb1 x ≡ 0 = m ∙ omega arith in
    rw (eq-eqb _ _ none)

pub doubled_high : (x : List ℕ) → 128 ≤ get_or x 0 0 → get_or x 0 0 < 256 → doubled x ≡ xor_l 16 (shl1 x) R128
unfolding doubled
doubled_high x h b =
    let m = msb1_is x in
    let one : msb1 x ≡ 0 → ⊥ = λ e. omega arith in
    rw (ne_eqb _ _ one)
