-- Bytes that are all the same one: what that says of them, and how the code finds it, by the or of their xors.
use mathlib.Core.Path.{◌≡◌, refl, sym, ap, ◌∙◌}
use mathlib.Core.Bool.{Bool, true, false, true≢false}
use mathlib.Core.List.{List, [], ◌∷◌}
use Prim.Native.Nat.{ℕ, zero, suc, ◌+◌, ◌≤◌, ◌<◌}
use native.Mathlib.Omega.{arith}
use native.Mathlib.Numerals.{add-one}
use lib.ListN.{length, get_or, drop, replicate, drop_of_length-le}
use lib.Seq.{drop-cons}
use lib.Dec.{eqb}
use lib.Bits.{bit_or, bit_xor, or_zero_l, or_add_and, and_le_r}
use borrow.Author.Tests.{eq-eqb, ne_eqb, eqb-true}
use Rattle.laws.specs.Choice.{choose}
use Rattle.runs.specs.All.{all}
use Rattle.runs.proofs.Same.{xor_test}

-- ---- what it says
pub all_are : (b : ℕ) (l : List ℕ) → all b l ≡ true → l ≡ replicate (length l) b
all_are b [] a = refl
all_are b (x ∷ xs) a = first (eqb x b) refl a (all_are b xs)
  where
    first : (t : Bool) → eqb x b ≡ t → choose t (all b xs) false ≡ true → (all b xs ≡ true → xs ≡ replicate (length xs) b)
        → x ∷ xs ≡ b ∷ replicate (length xs) b
    first true e a rest = λ i. eqb-true x b e i ∷ rest a i
    first false e a rest = absurd (true≢false (sym a))

pub all_replicate : (b n : ℕ) → all b (replicate n b) ≡ true
all_replicate b zero = refl
all_replicate b (suc n) = rw (eq-eqb b b refl) (all_replicate b n)

-- ---- by the or of the xors so far: one place further
set_not_zero : (a : ℕ) → eqb (suc a) 0 ≡ false
set_not_zero a = ne_eqb (suc a) 0 (λ e. omega arith)

or_suc : (a b : ℕ) → bit_or (suc a) b ≡ 0 → ⊥
or_suc a b e =
    let sum = or_add_and (suc a) b in
    let both = and_le_r (suc a) b in
    omega arith

pub all_next : (b : ℕ) (l : List ℕ) (i any : ℕ) → i < length l
    → choose (eqb (bit_or any (bit_xor (get_or l i 0) b)) 0) (all b (drop (i + 1) l)) false ≡ choose (eqb any 0) (all b (drop i l)) false
all_next b l i zero h = rw (or_zero_l (bit_xor (get_or l i 0) b), xor_test (get_or l i 0) b, add-one, drop-cons l i 0)
all_next b l i (suc any) h =
    ap (λ (t : Bool). choose t (all b (drop (i + 1) l)) false) (ne_eqb (bit_or (suc any) (bit_xor (get_or l i 0) b)) 0 (or_suc any (bit_xor (get_or l i 0) b)))
    ∙ sym (ap (λ (t : Bool). choose t (all b (drop i l)) false) (set_not_zero any))

-- and at the end
pub all_so_far : (b : ℕ) (l : List ℕ) (i any : ℕ) → length l ≤ i → eqb any 0 ≡ choose (eqb any 0) (all b (drop i l)) false
all_so_far b l i zero h = rw drop_of_length-le
all_so_far b l i (suc any) h = set_not_zero any ∙ sym (ap (λ (t : Bool). choose t (all b (drop i l)) false) (set_not_zero any))
