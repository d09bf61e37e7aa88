-- The loop that goes through both cards' keys: what is listed so far, and what is left.
use mathlib.Core.Path.{◌≡◌, refl, sym, ap, ap₂, ◌∙◌, subst}
use mathlib.Core.Bool.{Bool, true, false, not, true≢false}
use mathlib.Core.List.{List, [], ◌∷◌, ◌++◌, append_assoc, append-nil}
use Prim.Native.Nat.{ℕ, suc, ◌+◌, ◌*◌, ◌/◌, ◌%◌, ◌^◌, ◌≤◌, ◌<◌}
use native.Mathlib.Omega.{arith}
use lib.Dec.{eqb, ltb}
use lib.ListN.{length, set, take, length-set}
use lib.Seq.{take-suc-set, take-set-le}
use borrow.Author.Tests.{eqb-false, ltb-true, ltb-false, lt-ltb, le-ltb}
use Rattle.laws.specs.Choice.{choose}
use Rattle.laws.specs.Bytes as words
use Rattle.laws.proofs.BigEndian.{bytes_of-append}
use Rattle.runs.specs.Same.{same}
use Rattle.runs.proofs.Same.{same_self, same_is}
use Rattle.card_slots.specs.Card.{good}
use Rattle.card_slots.specs.Find.{found}
use Rattle.card.specs.code.Order.{Ordered}
use Rattle.card_compare.specs.Compare.{change_at, bytes_of, listed, differences}
use Rattle.card_compare.specs.code.Merge.{number_at, slot_at, mark_at}
use Rattle.card_compare.proofs.Numbers.{pair_at, left, left_all, left_end, left_next}
use Rattle.card_compare.proofs.Marks.{change_same, change_none, change_first, change_second, change_other}
use Rattle.card_compare.proofs.Pointer.{number_behind, number_low, Pointer, pointer_start, pointer_none, pointer_at, pointer_on}

-- ---- bytes
listed-append : (cs ds : List ((ℕ × ℕ) × ℕ)) → listed (cs ++ ds) ≡ listed cs ++ listed ds
listed-append [] ds = refl
listed-append (c ∷ cs) ds =
    ap (λ (l : List ℕ). bytes_of c ++ l) (listed-append cs ds) ∙ sym (append_assoc (bytes_of c) (listed cs) (listed ds))

-- a change's record is a word's four bytes
word_bytes : (z m : ℕ) → m < 256 → words.bytes_of ((z * 256 + m) ∷ []) ≡ bytes_of (pair_at z, m)
word_bytes z m h =
    let a : (z * 256 + m) / 2 ^ 24 ≡ z / 256 / 256 = omega arith in
    let b : (z * 256 + m) / 2 ^ 16 % 2 ^ 8 ≡ z / 256 % 256 = omega arith in
    let c : (z * 256 + m) / 2 ^ 8 % 2 ^ 8 ≡ z % 256 = omega arith in
    let d : (z * 256 + m) % 2 ^ 8 ≡ m = omega arith in
    rw (a, b, c, d)

-- ---- the mark, as the code comes to it
module _ (first second a b : List ℕ) (i j : ℕ) {x y : ℕ} (ex : x ≡ number_at a i) (ey : y ≡ number_at b j) where
  by_numbers : (t : Bool) → ℕ → ℕ → ℕ
  by_numbers t p q = choose (ltb p q) 1 (choose (ltb q p) 2 (choose t 0 3))

  is_mark : {n : ℕ} (t : Bool) → t ≡ same (slot_at first a i) (slot_at second b j) → n ≡ by_numbers t x y → n ≡ mark_at first second a b i j
  unfolding by_numbers
  is_mark t f e =
      e ∙ ap₂ (by_numbers t) ex ey ∙ ap (λ (s : Bool). by_numbers s (number_at a i) (number_at b j)) f

  pub mark_first : x < y → 1 ≡ mark_at first second a b i j
  unfolding by_numbers
  mark_first h = is_mark _ refl (rw (lt-ltb x y h))

  pub mark_second : y < x → 2 ≡ mark_at first second a b i j
  unfolding by_numbers
  mark_second h = is_mark _ refl (rw (le-ltb x y (omega arith), lt-ltb y x h))

  pub mark_both : y ≤ x → x ≤ y → {n : ℕ} (t : Bool) → t ≡ same (slot_at first a i) (slot_at second b j) → n ≡ choose t 0 3 → n ≡ mark_at first second a b i j
  unfolding by_numbers
  mark_both h k t f e = is_mark t f (rw (le-ltb x y h, le-ltb y x k) e)

-- ---- the mark is that of the definition
module _ {first second a b : List ℕ} (g : good first ≡ true) (h : good second ≡ true) (o : Ordered first a) (r : Ordered second b)
    {i j from : ℕ} (p : Pointer a i from) (q : Pointer b j from) (more : i + j < length a + length b) where
  module _ (z : ℕ) (lx : z ≤ number_at a i) (ly : z ≤ number_at b j) (one : z < number_at a i → z ≡ number_at b j) where
    -- it is a number of one of the cards
    pub below : z < 16777216
    below = by_side (ltb i (length a)) refl
      where
        by_side : (s : Bool) → ltb i (length a) ≡ s → z < 16777216
        by_side true e = let x = number_low o i (ltb-true i (length a) e) in omega arith
        by_side false e =
            let u = ltb-false i (length a) e in
            let v = p.low in
            let y = number_low r j (omega arith) in
            omega arith

    at_least : from ≤ z
    at_least = by_side (ltb z (number_at a i)) refl
      where
        by_side : (s : Bool) → ltb z (number_at a i) ≡ s → from ≤ z
        by_side true e = (pointer_at h r q z (one (ltb-true z (number_at a i) e)) below).2
        by_side false e = let u = ltb-false z (number_at a i) e in (pointer_at g o p z (omega arith) below).2

    z_first : number_at a i ≤ number_at b j → z ≡ number_at a i
    z_first l = by_side (ltb z (number_at a i)) refl
      where
        by_side : (s : Bool) → ltb z (number_at a i) ≡ s → z ≡ number_at a i
        by_side true e = let u = ltb-true z (number_at a i) e in let v = one u in absurd (omega arith)
        by_side false e = let u = ltb-false z (number_at a i) e in omega arith

    z_second : number_at b j ≤ number_at a i → z ≡ number_at b j
    z_second l = by_side (ltb z (number_at a i)) refl
      where
        by_side : (s : Bool) → ltb z (number_at a i) ≡ s → z ≡ number_at b j
        by_side true e = one (ltb-true z (number_at a i) e)
        by_side false e = let u = ltb-false z (number_at a i) e in omega arith

    -- the mark is that of the definition
    mark_right : {m : ℕ} → m ≡ mark_at first second a b i j → change_at first second (pair_at z) ≡ choose (eqb m 0) [] ((pair_at z, m) ∷ [])
    mark_right e =
        by_side (ltb (number_at a i) (number_at b j)) refl (ltb (number_at b j) (number_at a i)) refl
        (same (slot_at first a i) (slot_at second b j)) refl
        ∙ ap (λ (n : ℕ). choose (eqb n 0) [] ((pair_at z, n) ∷ [])) (sym e)
      where
        by_side : (s : Bool) → ltb (number_at a i) (number_at b j) ≡ s → (t : Bool) → ltb (number_at b j) (number_at a i) ≡ t
            → (u : Bool) → same (slot_at first a i) (slot_at second b j) ≡ u
            → change_at first second (pair_at z)
            ≡ choose (eqb (choose s 1 (choose t 2 (choose u 0 3))) 0) [] ((pair_at z, choose s 1 (choose t 2 (choose u 0 3))) ∷ [])
        by_side true e t f u k =
            let l = ltb-true (number_at a i) (number_at b j) e in
            let x = z_first (omega arith) in
            change_first first second (pair_at z) (pointer_at g o p z x below).0 (pointer_none h r q z at_least (omega arith))
        by_side false e true f u k =
            let l = ltb-true (number_at b j) (number_at a i) f in
            let y = z_second (omega arith) in
            change_second first second (pair_at z) (pointer_none g o p z at_least (omega arith)) (pointer_at h r q z y below).0
        by_side false e false f true k =
            let x = pointer_at g o p z (z_first (ltb-false (number_at b j) (number_at a i) f)) below in
            let y = pointer_at h r q z (z_second (ltb-false (number_at a i) (number_at b j) e)) below in
            change_same first second (pair_at z) (x.1 ∙ same_is (slot_at first a i) (slot_at second b j) k ∙ sym y.1)
        by_side false e false f false k =
            let x = pointer_at g o p z (z_first (ltb-false (number_at b j) (number_at a i) f)) below in
            let y = pointer_at h r q z (z_second (ltb-false (number_at a i) (number_at b j) e)) below in
            change_other first second (pair_at z) x.0 y.0
            (λ n. true≢false
            (sym (subst (λ (l : List ℕ). same (slot_at first a i) l ≡ true) (sym x.1 ∙ n ∙ y.1) (same_self (slot_at first a i))) ∙ k))

-- ---- the loop
-- what stands next: z is the lesser number of the two, m its mark
pub record Next (first second a b : List ℕ) (i j z m : ℕ) : Type 0 where
  pub more : i + j < length a + length b
  pub low_a : z ≤ number_at a i
  pub low_b : z ≤ number_at b j
  pub least : z < number_at a i → z ≡ number_at b j
  pub marked : m ≡ mark_at first second a b i j
  pub byte : m < 256

pub record Walked (first second a b list : List ℕ) (n i j : ℕ) : Type 0 where
  pub from : ℕ
  pub one : Pointer a i from
  pub two : Pointer b j from
  pub room : n ≤ i + j
  pub long : length list ≡ 512
  pub still : words.bytes_of (take n list) ++ listed (left first second from) ≡ differences first second

pub walk_start : (first second a b list : List ℕ) → length list ≡ 512 → Walked first second a b list 0 0 0
unfolding differences
walk_start first second a b list l =
    record {
      from = 0;
      one = pointer_start a;
      two = pointer_start b;
      room = omega arith;
      long = l;
      still = ap listed (left_all first second);
    }

module _ {first second a b list : List ℕ} {n i j : ℕ} (g : good first ≡ true) (h : good second ≡ true) (o : Ordered first a) (r : Ordered second b)
    (w : Walked first second a b list n i j) where
  -- there is room for one more
  pub walk_room : i + j < length a + length b → n < length list
  walk_room more = let k = w.room in let l = w.long in let p = o.few in let q = r.few in omega arith

  pub walk_most : n ≤ 512
  walk_most = let k = w.room in let x = w.one.low in let y = w.two.low in let p = o.few in let q = r.few in omega arith

  module _ {z m : ℕ} (t : Next first second a b i j z m) where
    pub low : z < 16777216
    low = below g h o r w.one w.two t.more z t.low_a t.low_b t.least

    from-z : w.from ≤ z
    from-z = at_least g h o r w.one w.two t.more z t.low_a t.low_b t.least

    -- what is left, with the next change apart
    next_left : listed (left first second w.from) ≡ listed (choose (eqb m 0) [] ((pair_at z, m) ∷ [])) ++ listed (left first second (z + 1))
    next_left =
        let x = t.low_a in
        let y = t.low_b in
        ap listed
        (left_next first second w.from z from-z low
        (λ k u v. pointer_none g o w.one k u (omega arith)) (λ k u v. pointer_none h r w.two k u (omega arith)))
        ∙ listed-append (change_at first second (pair_at z)) (left first second (z + 1))
        ∙ ap (λ (c : List ((ℕ × ℕ) × ℕ)). listed c ++ listed (left first second (z + 1)))
        (mark_right g h o r w.one w.two t.more z t.low_a t.low_b t.least t.marked)

    -- the word at n, and n past it where there is a change
    next_list : {k : ℕ} → k ≡ n + choose (not (eqb m 0)) 1 0
        → words.bytes_of (take k (set list n (z * 256 + m))) ≡ words.bytes_of (take n list) ++ listed (choose (eqb m 0) [] ((pair_at z, m) ∷ []))
    next_list {k} f = by_test (eqb m 0) f
      where
        by_test : (b : Bool) → k ≡ n + choose (not b) 1 0
            → words.bytes_of (take k (set list n (z * 256 + m))) ≡ words.bytes_of (take n list) ++ listed (choose b [] ((pair_at z, m) ∷ []))
        by_test true f =
            let c : k ≡ n = omega arith in
            ap (λ (x : ℕ). words.bytes_of (take x (set list n (z * 256 + m)))) c
            ∙ ap words.bytes_of (take-set-le n list n (z * 256 + m) (omega arith))
            ∙ sym (append-nil (words.bytes_of (take n list)))
        by_test false f =
            let c : k ≡ suc n = omega arith in
            ap (λ (x : ℕ). words.bytes_of (take x (set list n (z * 256 + m)))) c
            ∙ ap words.bytes_of (take-suc-set list n (z * 256 + m) (walk_room t.more))
            ∙ bytes_of-append (take n list) ((z * 256 + m) ∷ [])
            ∙ ap (λ (x : List ℕ). words.bytes_of (take n list) ++ x) (word_bytes z m t.byte)

    module _ {i' j' : ℕ} (x : i' ≡ i + choose (eqb (number_at a i) z) 1 0) (y : j' ≡ j + choose (eqb (number_at b j) z) 1 0) where
      -- one of the two goes on
      pub walk_further : i + j < i' + j'
      walk_further = by_test (eqb (number_at a i) z) refl (eqb (number_at b j) z) refl x y
        where
          by_test : (u : Bool) → eqb (number_at a i) z ≡ u → (v : Bool) → eqb (number_at b j) z ≡ v
              → i' ≡ i + choose u 1 0 → j' ≡ j + choose v 1 0 → i + j < i' + j'
          by_test true p v q x y = omega arith
          by_test false p true q x y = omega arith
          by_test false p false q x y =
              let e = eqb-false (number_at a i) z p in
              let l = t.low_a in
              absurd (eqb-false (number_at b j) z q (sym (t.least (omega arith))))

      pub walk_on : {k : ℕ} → k ≡ n + choose (not (eqb m 0)) 1 0 → Walked first second a b (set list n (z * 256 + m)) k i' j'
      walk_on {k} f =
          record {
            from = z + 1;
            one = pointer_on g o w.one z from-z t.low_a low x;
            two = pointer_on h r w.two z from-z t.low_b low y;
            room = by_test (not (eqb m 0)) f;
            long = length-set list n (z * 256 + m) ∙ w.long;
            still =
                ap (λ (c : List ℕ). c ++ listed (left first second (z + 1))) (next_list f)
                ∙ append_assoc (words.bytes_of (take n list)) (listed (choose (eqb m 0) [] ((pair_at z, m) ∷ []))) (listed (left first second (z + 1)))
                ∙ ap (λ (c : List ℕ). words.bytes_of (take n list) ++ c) (sym next_left)
                ∙ w.still;
          }
        where
          by_test : (b : Bool) → k ≡ n + choose b 1 0 → k ≤ i' + j'
          by_test true f = let c = w.room in let d = walk_further in omega arith
          by_test false f = let c = w.room in let d = walk_further in omega arith

  -- behind both cards' last keys nothing is left
  module _ (done : length a + length b ≤ i + j) where
    none_left : left first second w.from ≡ []
    none_left = by_side (ltb w.from 16777216) refl
      where
        end_a : number_at a i ≡ 16777216
        end_a = let x = w.one.low in let y = w.two.low in number_behind a i (omega arith)

        end_b : number_at b j ≡ 16777216
        end_b = let x = w.one.low in let y = w.two.low in number_behind b j (omega arith)

        no_a : (k : ℕ) → w.from ≤ k → k < 16777216 → found first (pair_at k) ≡ false
        no_a k u v = let x = end_a in pointer_none g o w.one k u (omega arith)

        no_b : (k : ℕ) → w.from ≤ k → k < 16777216 → found second (pair_at k) ≡ false
        no_b k u v = let x = end_b in pointer_none h r w.two k u (omega arith)

        by_side : (s : Bool) → ltb w.from 16777216 ≡ s → left first second w.from ≡ []
        by_side true e =
            let u = ltb-true w.from 16777216 e in
            left_next first second w.from 16777215 (omega arith) (omega arith) (λ k x y. no_a k x (omega arith)) (λ k x y. no_b k x (omega arith))
            ∙ ap₂ ◌++◌ (change_none first second (pair_at 16777215) (no_a 16777215 (omega arith) (omega arith)) (no_b 16777215 (omega arith) (omega arith)))
            (left_end first second 16777216 (omega arith))
        by_side false e = left_end first second w.from (ltb-false w.from 16777216 e)

    pub walk_end : words.bytes_of (take n list) ≡ differences first second
    walk_end =
        sym (append-nil (words.bytes_of (take n list)))
        ∙ ap (λ (c : List ((ℕ × ℕ) × ℕ)). words.bytes_of (take n list) ++ listed c) (sym none_left)
        ∙ w.still
