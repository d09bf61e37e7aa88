-- Every list of bytes is spelt by a text: its digits, one after the other, are taken and read as these bytes.
use mathlib.Core.Path.{◌≡◌, refl, sym, ap, ap₂, ◌∙◌}
use mathlib.Core.Bool.{false, not}
use mathlib.Core.List.{List, [], ◌∷◌, ◌++◌}
use Prim.Native.Nat.{ℕ, zero, suc, ◌+◌, ◌*◌, ◌/◌, ◌%◌, ◌≤◌, ◌<◌}
use native.Mathlib.Omega.{arith}
use lib.Dec.{eqb, eqb→eq}
use lib.ListN.{length, get_or, drop}
use Rattle.std.specs.Prelude.{Ok}
use Rattle.laws.specs.Bytes.{Byte, Bytes}
use Rattle.laws.proofs.Places.{each_head, each_tail}
use Rattle.hex_text.specs.Hex.{smalls, white, value, bad, digits, joined, Good}
use Rattle.hex_digits.specs.Read.{Read}
use Rattle.hex_text.proofs.Ranges.{passed, is_false}
use Rattle.hex_digits.proofs.Outcomes.{bytes}

abbrev digit : ℕ → ℕ
digit d = get_or smalls d 0

abbrev pub spelling : List ℕ → List ℕ
spelling [] = []
spelling (b ∷ bs) = digit (b / 16) ∷ digit (b % 16) ∷ spelling bs

-- ---- each of the sixteen
digit_plain : (d : ℕ) → d < 16 → white (digit d) ≡ false
unfolding white
digit_plain d h = sym (is_false _ (passed (λ x. not (white (digit x))) 0 16 tt d (omega arith) (omega arith)))

digit_good : (d : ℕ) → d < 16 → bad (digit d) ≡ false
unfolding white value bad
digit_good d h = sym (is_false _ (passed (λ x. not (bad (digit x))) 0 16 tt d (omega arith) (omega arith)))

digit_value : (d : ℕ) → d < 16 → value (digit d) ≡ d
unfolding value
digit_value d h = eqb→eq _ _ (passed (λ x. eqb (value (digit x)) x) 0 16 tt d (omega arith) (omega arith))

-- ---- all of them
spelling_good : (n : ℕ) (bs : List ℕ) → Bytes n bs → Good (spelling bs)
spelling_good n [] h = refl
spelling_good zero (b ∷ bs) h = let l = h.long in absurd (omega arith)
spelling_good (suc n) (b ∷ bs) h =
    let small : b < 256 = each_head h in
    rw (digit_good (b / 16) (omega arith), digit_good (b % 16) (omega arith))
    (ap (λ (k : ℕ). suc (suc k)) (spelling_good n bs (each_tail h)))

spelling-cons : (b : ℕ) (bs : List ℕ) → Byte b → digits (spelling (b ∷ bs)) ≡ b / 16 ∷ b % 16 ∷ digits (spelling bs)
spelling-cons b bs small =
    let high : b / 16 < 16 = omega arith in
    let low : b % 16 < 16 = omega arith in
    rw (digit_plain (b / 16) high, digit_plain (b % 16) low, digit_value (b / 16) high, digit_value (b % 16) low)

spelling_count : (n : ℕ) (bs : List ℕ) → Bytes n bs → length (digits (spelling bs)) ≡ 2 * n
spelling_count n [] h = let l = h.long in omega arith
spelling_count zero (b ∷ bs) h = let l = h.long in absurd (omega arith)
spelling_count (suc n) (b ∷ bs) h =
    let e = ap length (spelling-cons b bs (each_head h)) in
    let r = spelling_count n bs (each_tail h) in
    omega arith

spelling_bytes : (n : ℕ) (bs : List ℕ) → Bytes n bs → joined (digits (spelling bs)) ≡ bs
spelling_bytes n [] h = refl
spelling_bytes zero (b ∷ bs) h = let l = h.long in absurd (omega arith)
spelling_bytes (suc n) (b ∷ bs) h =
    let e : b / 16 * 16 + b % 16 ≡ b = omega arith in
    ap joined (spelling-cons b bs (each_head h)) ∙ ap₂ (λ (x : ℕ) (l : List ℕ). x ∷ l) e (spelling_bytes n bs (each_tail h))

pub spelt : (n : ℕ) (bs before : List ℕ) → Bytes n bs → n ≤ length before → Read (spelling bs) before (Ok n) (bs ++ drop n before)
spelt n bs before h room =
    let good = spelling_good n bs h in
    let half : 2 * n / 2 ≡ n = omega arith in
    let r = bytes {text = spelling bs} {before = before} (2 * n) (omega arith) (sym (spelling_count n bs h)) (omega arith) (omega arith) in
    rw (half, spelling_bytes n bs h) at r
