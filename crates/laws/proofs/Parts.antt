-- Parts of lists: a part of a part, and a list cut into two parts of 8 and joined again.
use mathlib.Core.Path.{◌≡◌, sym, ap, ◌∙◌}
use mathlib.Core.List.{List, ◌++◌}
use Prim.Native.Nat.{ℕ, ◌+◌, ◌-◌, ◌≤◌}
use native.Mathlib.Nat.{add_assoc}
use native.Mathlib.Omega.{arith}
use lib.ListN.{length, get_or, drop, get_or-append}
use lib.Seq.{get_or-append-add, get_or-drop}
use Rattle.laws.specs.Places.{part}
use Rattle.laws.proofs.Places.{get_or-tab, tab_equal, tab_self}

pub part-part : {A : Type 0} (d : A) (a n b m : ℕ) (xs : List A) → a + n ≤ m → part d a n (part d b m xs) ≡ part d (b + a) n xs
part-part d a n b m xs h =
    tab_equal n (λ j. get_or (part d b m xs) (a + j) d) (λ j. get_or xs (b + a + j) d) d
    (λ j l. get_or-tab m (λ i. get_or xs (b + i) d) (a + j) d (omega arith) ∙ ap (λ (i : ℕ). get_or xs i d) (sym (add_assoc b a j)))

pub left_half : (l r : List ℕ) → length l ≡ 8 → part 0 0 8 (l ++ r) ≡ l
left_half l r e = ap (λ (x : List ℕ). part 0 0 8 (x ++ r)) (tab_self 8 0 l e) ∙ sym (tab_self 8 0 l e)

pub right_half : (l r : List ℕ) → length l ≡ 8 → length r ≡ 8 → part 0 8 8 (l ++ r) ≡ r
right_half l r e f = ap (λ (x : List ℕ). part 0 8 8 (x ++ r)) (tab_self 8 0 l e) ∙ sym (tab_self 8 0 r f)

pub joined_halves : (m : List ℕ) → length m ≡ 16 → part 0 0 8 m ++ part 0 8 8 m ≡ m
joined_halves m e = sym (tab_self 16 0 m e)

-- ---- a part of two lists joined
pub part_before : {A : Type 0} (d : A) (a n : ℕ) (xs ys : List A) → a + n ≤ length xs → part d a n (xs ++ ys) ≡ part d a n xs
part_before d a n xs ys h =
    tab_equal n (λ j. get_or (xs ++ ys) (a + j) d) (λ j. get_or xs (a + j) d) d (λ j l. get_or-append xs ys d (a + j) (omega arith))

-- xs, and then ys without its first `length xs - m`: from place m on stands ys, behind xs
pub part_behind : {A : Type 0} (d : A) (m a n : ℕ) (xs ys : List A) → m ≤ length xs → length xs ≤ m + a
    → part d (m + a) n (xs ++ drop (length xs - m) ys) ≡ part d a n ys
part_behind d m a n xs ys h l =
    tab_equal n (λ j. get_or (xs ++ drop (length xs - m) ys) (m + a + j) d) (λ j. get_or ys (a + j) d) d
    (λ j k.
    let e : m + a + j ≡ length xs + (m + a + j - length xs) = omega arith in
    let f : length xs - m + (m + a + j - length xs) ≡ a + j = omega arith in
    ap (λ (i : ℕ). get_or (xs ++ drop (length xs - m) ys) i d) e
    ∙ get_or-append-add xs (drop (length xs - m) ys) (m + a + j - length xs) d
    ∙ get_or-drop (length xs - m) ys (m + a + j - length xs) d
    ∙ ap (λ (i : ℕ). get_or ys i d) f)
