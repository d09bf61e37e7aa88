-- The bytes at hand: the first k of the held bytes h with a piece p after them. What `first_block` and `left_over` read of them.
use mathlib.Core.Bool.{Bool, true, false}
use mathlib.Core.Path.{◌≡◌, refl, sym, ap, ap₂, ◌∙◌}
use mathlib.Core.List.{List, ◌++◌, append-nil, append_assoc}
use Rattle.std.proofs.lemmas.List.{drop-replicate}
use Prim.Native.Nat.{ℕ, ◌+◌, ◌-◌, ◌*◌, ◌≤◌, ◌<◌, min}
use borrow.Rule.Slice.PartMut.{put_mid}
use borrow.Author.Tests.{leb-true, leb-false}
use lib.Dec.{leb}
use native.Mathlib.Nat.{le_refl}
use native.Mathlib.Omega.{arith}
use lib.ListN.{length, take, drop, replicate, take-append-drop, length-append, length-drop, length-replicate, drop_of_length-le}
use lib.Seq.{length-take-le, take-take, take-append-le, take-append-add, drop-append-add, take_at, take_all}
use Rattle.runs.specs.Zeros.{zeros}
use Rattle.runs.proofs.Fill.{zeros_are}
use Rattle.pieces.specs.Pieces.{held_in}

module _ (h p : List ℕ) (k : ℕ) (fits : k ≤ length h) where
  pub hand_length : length (take k h ++ p) ≡ k + length p
  hand_length = length-append (take k h) p ∙ ap (λ (n : ℕ). n + length p) (length-take-le k h fits)

-- ---- the parts that are copied: a list whose part from a on is b, of n places
pub middle_at_the_end : (a : ℕ) (n : ℕ) (x b : List ℕ) → a + n ≡ length x → put_mid a n x b ≡ take a x ++ b
middle_at_the_end a n x b h =
    let d = length-drop a x in
    ap (λ (l : List ℕ). take a x ++ (b ++ l)) (drop_of_length-le (drop a x) (omega arith)) ∙ ap (λ (l : List ℕ). take a x ++ l) (append-nil b)

-- the first m of h, and what is missing to 16 of p
pub first_parts : (h p : List ℕ) (k m : ℕ) → k ≤ length h → m ≡ min k 16 → take m h ++ take (16 - m) p ≡ take 16 (take k h ++ p)
first_parts h p k m fits e = by_test (leb k 16) refl
  where
    by_test : (t : Bool) → leb k 16 ≡ t → take m h ++ take (16 - m) p ≡ take 16 (take k h ++ p)
    by_test true t =
        let u = leb-true k 16 t in
        let same : m ≡ k = omega arith in
        let l = length-take-le k h fits in
        let whole : length (take k h) + (16 - k) ≡ 16 = omega arith in
        ap (λ (n : ℕ). take n h ++ take (16 - n) p) same
        ∙ sym (take-append-add (take k h) p (16 - k))
        ∙ ap (λ (n : ℕ). take n (take k h ++ p)) whole
    by_test false t =
        let u = leb-false k 16 t in
        let same : m ≡ 16 = omega arith in
        let l = length-take-le k h fits in
        ap (λ (n : ℕ). take n h ++ take (16 - n) p) same
        ∙ append-nil (take 16 h)
        ∙ sym (take-take 16 k h (omega arith))
        ∙ sym (take-append-le 16 (take k h) p (omega arith))

-- ---- what stands behind n whole blocks of the bytes at hand
module _ (h p : List ℕ) (k n : ℕ) where
  pub left_none : n ≡ 0 → take k h ++ p ≡ drop (16 * n) (take k h ++ p)
  left_none none = rw none

  pub left_some : k ≤ length h → k ≤ 16 * n → drop (16 * n - k) p ≡ drop (16 * n) (take k h ++ p)
  left_some fits l =
      let e : length (take k h) ≡ k = length-take-le k h fits in
      let m : 16 * n ≡ length (take k h) + (16 * n - k) = omega arith in
      sym (ap (λ (i : ℕ). drop i (take k h ++ p)) m ∙ drop-append-add (take k h) p (16 * n - k))

-- ---- the bytes at hand as their first block and the rest of the piece
module _ (h p : List ℕ) (k : ℕ) (fits : k ≤ length h) where
  hand_split : k ≤ 16 → take 16 (take k h ++ p) ++ drop (16 - k) p ≡ take k h ++ p
  hand_split le =
      let e : length (take k h) ≡ k = length-take-le k h fits in
      let m : 16 ≡ length (take k h) + (16 - k) = omega arith in
      ap (λ (l : List ℕ). take 16 (take k h ++ p) ++ l) (sym (ap (λ (n : ℕ). drop n (take k h ++ p)) m ∙ drop-append-add (take k h) p (16 - k)))
      ∙ take-append-drop 16 (take k h ++ p)

  -- with the rest as the code lends it, by its start and its length
  pub hand_parts : k ≤ 16 → take 16 (take k h ++ p) ++ take (length p - (16 - k)) (drop (16 - k) p) ≡ take k h ++ p
  hand_parts le =
      let d = length-drop (16 - k) p in
      ap (λ (l : List ℕ). take 16 (take k h ++ p) ++ l) (take_all (length p - (16 - k)) (drop (16 - k) p) (omega arith)) ∙ hand_split le

-- ---- places that are filled up with zeros
pub held_rest : (x l : List ℕ) (k n : ℕ) → zeros (drop k x) ≡ true → k + n ≡ length l → drop n (drop k x) ≡ replicate (length x - length l) 0
held_rest x l k n z e =
    let d = length-drop k x in
    let left : length (drop k x) - n ≡ length x - length l = omega arith in
    ap (drop n) (zeros_are (drop k x) z)
    ∙ drop-replicate n (length (drop k x)) 0
    ∙ ap (λ (m : ℕ). replicate m 0) left

-- bytes put after the first k of x, behind which x is zeros
pub put_after : (x b : List ℕ) (k n : ℕ) → k ≤ length x → zeros (drop k x) ≡ true → n ≡ length b
    → put_mid k n x b ≡ held_in (length x) (take k x ++ b)
put_after x b k n fits z e =
    let t = length-take-le k x fits in
    let a = length-append (take k x) b in
    ap (λ (l : List ℕ). take k x ++ (b ++ l)) (held_rest x (take k x ++ b) k n z (omega arith))
    ∙ sym (append_assoc (take k x) b (replicate (length x - length (take k x ++ b)) 0))

-- bytes put at the front of zeros
pub put_before : (x b z : List ℕ) (n m : ℕ) → z ≡ replicate m 0 → m ≡ length x → n ≡ length b → b ++ drop n z ≡ held_in (length x) b
put_before x b z n m e f g =
    let left : m - n ≡ length x - length b = omega arith in
    ap (λ (l : List ℕ). b ++ drop n l) e
    ∙ ap (λ (l : List ℕ). b ++ l) (drop-replicate n m 0 ∙ ap (λ (k : ℕ). replicate k 0) left)
