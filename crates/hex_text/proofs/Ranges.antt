-- White space and digits by comparisons, as the code finds them: one test, computed at each character of a range.
use mathlib.Core.Bool.{Bool, true, false, not}
use mathlib.Core.Path.{◌≡◌, refl, subst}
use Prim.Native.Nat.{ℕ, ◌+◌, ◌-◌, ◌≤◌, ◌<◌}
use native.Mathlib.Omega.{arith}
use lib.Dec.{T, eqb, eqb→eq}
use borrow.Author.Tests.{ne_eqb}
use Rattle.laws.specs.Choice.{choose}
use Rattle.laws.specs.Places.{tab}
use Rattle.laws.proofs.Places.{length-tab}
use Rattle.laws.proofs.Table.{every, table_at}
use Rattle.hex_text.specs.Hex.{white, value}

-- the test passes at each of the n characters from `first` on
abbrev pub Passes : (ℕ → Bool) → ℕ → ℕ → Type 0
Passes t first n = T (every (λ k x. t (first + k)) 0 (tab n (λ k. 0)))

pub passed : (t : ℕ → Bool) (first n : ℕ) → Passes t first n → (c : ℕ) → first ≤ c → c < first + n → T (t c)
passed t first n u c h k =
    let e : first + (c - first) ≡ c = omega arith in
    let l = length-tab {A = ℕ} n (λ j. 0) in
    subst (λ (m : ℕ). T (t m)) e (table_at (λ j x. t (first + j)) (tab n (λ j. 0)) u (c - first) (omega arith))

-- ---- digits
pub value_is : (f : ℕ → ℕ) (first n : ℕ) → Passes (λ c. eqb (f c) (value c)) first n → (c : ℕ) → first ≤ c → c < first + n → f c ≡ value c
value_is f first n u c h k = eqb→eq (f c) (value c) (passed (λ x. eqb (f x) (value x)) first n u c h k)

-- ---- white space
is_true : (b : Bool) → T b → true ≡ b
is_true true t = refl
is_true false t = absurd t

pub is_false : (b : Bool) → T (not b) → false ≡ b
is_false true t = absurd t
is_false false t = refl

pub white_is : (first n : ℕ) → Passes white first n → (c : ℕ) → first ≤ c → c < first + n → true ≡ white c
white_is first n u c h k = is_true (white c) (passed white first n u c h k)

-- but for a space
pub not_white : (first n : ℕ) → Passes (λ c. choose (eqb c 32) true (not (white c))) first n
    → (c : ℕ) → (c ≡ 32 → ⊥) → first ≤ c → c < first + n → false ≡ white c
not_white first n u c other h k =
    is_false (white c) (rw (ne_eqb c 32 other) at (passed (λ x. choose (eqb x 32) true (not (white x))) first n u c h k))
