-- The turns of `shl1`, and the last block as `masked` makes it of sixteen places h of which n are used.
use mathlib.Core.Path.{◌≡◌, sym, ap, ap₂, ◌∙◌}
use mathlib.Core.Bool.{true}
use mathlib.Core.List.{List, ◌∷◌, ◌++◌}
use Prim.Native.Nat.{ℕ, suc, ◌+◌, ◌-◌, ◌*◌, ◌/◌, ◌%◌, ◌<◌}
use native.Mathlib.Omega.{arith}
use lib.ListN.{length, get_or, set, take, drop, replicate, take-append-drop, length-drop}
use lib.Seq.{length-take-le, set_at, take_all}
use borrow.Author.Tests.{eq-eqb, ne_eqb}
use Rattle.laws.specs.Places.{tab}
use Rattle.laws.specs.Bytes.{xor_l}
use Rattle.laws.proofs.Places.{length-tab, get_or-tab}
use Rattle.runs.specs.Zeros.{zeros}
use Rattle.runs.proofs.Fill.{zeros_are, fill_next}
use Rattle.cmac.specs.Cmac.{shl1, padded, last}
use Rattle.cmac.proofs.Shift.{up_at, shl1_at}

-- ---- `shl1`
module _ (x : List ℕ) (long : length x ≡ 16) where
  abbrev pub shifted : List ℕ
  shifted = tab 16 (up_at x)

  pub shift_next : (i v a b : ℕ) → i < 16 → a ≡ get_or x i 0 → b ≡ get_or x (i + 1) 0 → v ≡ a % 128 * 2 + b / 128 % 2
      → set (take i shifted ++ replicate (16 - i) 0) i v ≡ take (i + 1) shifted ++ replicate (16 - (i + 1)) 0
  shift_next i v a b l ea eb ev =
      let n : length shifted ≡ 16 = length-tab 16 (up_at x) in
      fill_next 16 shifted i v l (omega arith)
      (ev ∙ ap₂ (λ (s t : ℕ). s % 128 * 2 + t / 128 % 2) ea eb ∙ sym (get_or-tab 16 (up_at x) i 0 l))

  pub shift_end : (i : ℕ) → i ≡ 16 → take i shifted ++ replicate (16 - i) 0 ≡ shl1 x
  shift_end i e = rw e (sym (shl1_at 16 x long))

-- ---- `masked`
module _ (k₁ k₂ h : List ℕ) (n : ℕ) (long : length h ≡ 16) where
  pub mask_whole : n ≡ 16 → xor_l 16 k₁ h ≡ last k₁ k₂ (take n h)
  unfolding last
  mask_whole e =
      let t : take n h ≡ h = take_all n h (omega arith) in
      rw (t, eq-eqb _ _ long)

  padded_is : n < 16 → zeros (drop n h) ≡ true → set h n 128 ≡ padded (take n h)
  padded_is l z =
      let t : length (take n h) ≡ n = length-take-le n h (omega arith) in
      let d : length (drop n h) ≡ suc (15 - n) = length-drop n h ∙ omega arith in
      let f : h ≡ take n h ++ 0 ∷ replicate (15 - n) 0 =
      sym (take-append-drop n h)
      ∙ ap (λ (r : List ℕ). take n h ++ r) (zeros_are (drop n h) z ∙ ap (λ (k : ℕ). replicate k 0) d) in
      ap (λ (r : List ℕ). set r n 128) f
      ∙ set_at (take n h) 0 (replicate (15 - n) 0) 128 n t
      ∙ ap (λ (k : ℕ). take n h ++ 128 ∷ replicate (15 - k) 0) (sym t)

  pub mask_part : n < 16 → zeros (drop n h) ≡ true → xor_l 16 k₂ (set h n 128) ≡ last k₁ k₂ (take n h)
  unfolding last
  mask_part l z =
      let t : length (take n h) ≡ n = length-take-le n h (omega arith) in
      let no : length (take n h) ≡ 16 → ⊥ = λ e. omega arith in
      ap (xor_l 16 k₂) (padded_is l z) ∙ rw (ne_eqb _ _ no)
