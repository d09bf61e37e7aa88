-- A number and its bytes, of any width: each gives the other back.
use mathlib.Core.Path.{◌≡◌, refl, sym, ap, ap₂, ◌∙◌}
use mathlib.Core.List.{List, [], ◌∷◌}
use Prim.Native.Nat.{ℕ, zero, suc, ◌+◌, ◌*◌, ◌/◌, ◌%◌, ◌^◌, ◌<◌}
use native.Mathlib.Nat.{div-eq_of_lt}
use native.Mathlib.Omega.{arith}
use lib.ListN.{length}
use Rattle.laws.proofs.Words.{Words}
use Rattle.stream_layout.specs.Number.{bytes_in, number_from, number_of}
use Rattle.stream_layout.proofs.Numbers.{one_more}

-- ---- its bytes spell it
spelt_back : (w n : ℕ) → number_from (n / 256 ^ w) (bytes_in w n) ≡ n
spelt_back zero n = omega arith
spelt_back (suc w) n =
    let e = one_more n w in
    let high : n / 256 ^ suc w * 256 + n / 256 ^ w % 256 ≡ n / 256 ^ w = omega arith in
    ap (λ (a : ℕ). number_from a (bytes_in w n)) high ∙ spelt_back w n

pub number_of_bytes : (w n : ℕ) → n < 256 ^ w → number_of (bytes_in w n) ≡ n
number_of_bytes w n h = ap (λ (a : ℕ). number_from a (bytes_in w n)) (sym (div-eq_of_lt h)) ∙ spelt_back w n

-- ---- and what bytes spell has these bytes
number_before : (a : ℕ) (bs : List ℕ) → Words 8 bs → number_from a bs / 256 ^ length bs ≡ a
number_before a [] h = omega arith
number_before a (b ∷ bs) h =
    let l = h.0 in
    sym (one_more (number_from (a * 256 + b) bs) (length bs)) ∙ ap (λ (x : ℕ). x / 256) (number_before (a * 256 + b) bs h.1) ∙ omega arith

written_back : (a : ℕ) (bs : List ℕ) → Words 8 bs → bytes_in (length bs) (number_from a bs) ≡ bs
written_back a [] h = refl
written_back a (b ∷ bs) h =
    let l = h.0 in
    let first : number_from (a * 256 + b) bs / 256 ^ length bs % 256 ≡ b = ap (λ (x : ℕ). x % 256) (number_before (a * 256 + b) bs h.1) ∙ omega arith in
    ap₂ (λ (x : ℕ) (xs : List ℕ). x ∷ xs) first (written_back (a * 256 + b) bs h.1)

pub bytes_of_number : (w : ℕ) (bs : List ℕ) → length bs ≡ w → Words 8 bs → bytes_in w (number_of bs) ≡ bs
bytes_of_number w bs e h = ap (λ (k : ℕ). bytes_in k (number_of bs)) (sym e) ∙ written_back 0 bs h
