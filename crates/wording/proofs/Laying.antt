-- A text laid character by character, and texts laid one behind the other.
use mathlib.Core.Path.{◌≡◌, refl, sym, ap, ◌∙◌}
use mathlib.Core.Bool.{Bool, true, false}
use mathlib.Core.List.{List, [], ◌∷◌, ◌++◌, append_assoc, append-nil}
use Prim.Native.Nat.{ℕ, suc, ◌+◌, ◌-◌, min, ◌≤◌, ◌<◌}
use native.Mathlib.Omega.{arith}
use native.Mathlib.Numerals.{add-one}
use lib.Dec.{leb}
use lib.ListN.{length, take, drop, set, length-set, length-append, length-drop, take-append-drop}
use lib.Seq.{take_all, take-length, take-append_seam, take-append-le, take-append-add, drop-drop, drop-length, length-take-le, take-take, take-suc-set, drop-set-lt, append_snoc}
use borrow.Author.Tests.{leb-true, leb-false}
use borrow.Rule.Slice.PartMut.{put_mid}
use Rattle.wording.specs.Laid.{laid, behind, Puts}

-- ---- one text
pub nothing_laid : (out : List ℕ) (at : ℕ) → laid out at [] ≡ out
unfolding laid
nothing_laid out at =
    let n : at + 0 ≡ at = omega arith in
    rw (append-nil (take at out), n, take-append-drop at out) (take-length out)

-- from the end on there is no room
pub no_room_lem : (out : List ℕ) (at : ℕ) (text : List ℕ) → length out ≤ at → laid out at text ≡ out
unfolding laid
no_room_lem out at text h =
    rw (take_all at out h, append_assoc out text (drop (at + length text) out)) (take-append_seam out (text ++ drop (at + length text) out))

pub one_laid : (out : List ℕ) (at c : ℕ) (text : List ℕ) → at < length out → laid (set out at c) (at + 1) text ≡ laid out at (c ∷ text)
unfolding laid
one_laid out at c text h =
    let n : at + 1 + length text ≡ at + suc (length text) = omega arith in
    let e : take (at + 1) (set out at c) ++ text ≡ take at out ++ c ∷ text
    = rw add-one (ap (λ (l : List ℕ). l ++ text) (take-suc-set out at c h) ∙ append_snoc (take at out) c text) in
    let d : drop (at + 1 + length text) (set out at c) ≡ drop (at + suc (length text)) out
    = drop-set-lt (at + 1 + length text) out at c (omega arith) ∙ ap (λ (k : ℕ). drop k out) n in
    rw (length-set out at c, e, d)

pub length-laid : (text out : List ℕ) (at : ℕ) → length (laid out at text) ≡ length out
length-laid [] out at = ap length (nothing_laid out at)
length-laid (c ∷ text) out at = go (leb (length out) at) refl (length-laid text (set out at c) (at + 1))
  where
    go : (b : Bool) → leb (length out) at ≡ b → length (laid (set out at c) (at + 1) text) ≡ length (set out at c)
        → length (laid out at (c ∷ text)) ≡ length out
    go true e m = ap length (no_room_lem out at (c ∷ text) (leb-true (length out) at e))
    go false e m = ap length (sym (one_laid out at c text (leb-false (length out) at e))) ∙ m ∙ length-set out at c

-- a text cut to the room behind a place
pub cut_laid : (out : List ℕ) (at : ℕ) (text : List ℕ) (n : ℕ) (ys : List ℕ) → at ≤ length out → n ≡ min (length text) (length out - at) → ys ≡ take n text
    → put_mid at (at + n - at) out ys ≡ laid out at text
unfolding laid
cut_laid out at text n ys h e y = go (leb (length text) (length out - at)) refl
  where
    rest : drop (at + n - at) (drop at out) ≡ drop (at + n) out
    rest = drop-drop (at + n - at) at out ∙ ap (λ (k : ℕ). drop k out) (omega arith)

    front : length (take at out) ≡ at
    front = length-take-le at out h

    go : (b : Bool) → leb (length text) (length out - at) ≡ b → put_mid at (at + n - at) out ys ≡ take (length out) (take at out ++ text ++ drop (at + length text) out)
    go true t =
        let f = leb-true (length text) (length out - at) t in
        let w = front in
        let m : n ≡ length text = omega arith in
        let long : length (take at out ++ text ++ drop (at + length text) out) ≤ length out
        = simp (length-append, length-drop) (omega arith) in
        rw (rest, y, m, take_all (length text) text (omega arith), ← append_assoc (take at out) text (drop (at + length text) out))
        (sym (take_all (length out) (take at out ++ text ++ drop (at + length text) out) long))
    go false t =
        let f = leb-false (length text) (length out - at) t in
        let w = front in
        let m : at + n ≡ length out = omega arith in
        let k : length out ≡ length (take at out) + n = omega arith in
        rw (rest, y, m, drop-length out)
        (ap (λ (l : List ℕ). take at out ++ l) (append-nil (take n text) ∙ sym (take-append-le n text (drop (at + length text) out) (omega arith)))
        ∙ sym (take-append-add (take at out) (text ++ drop (at + length text) out) n)
        ∙ ap (λ (l : List ℕ). take (length (take at out) + n) l) (sym (append_assoc (take at out) text (drop (at + length text) out)))
        ∙ ap (λ (i : ℕ). take i (take at out ++ text ++ drop (at + length text) out)) (sym k))

-- ---- the place behind it
module _ (out : List ℕ) (at : ℕ) (text : List ℕ) where
  pub behind-text : at + length text ≤ length out → at + length text ≡ behind out at text
  unfolding behind
  behind-text h = omega arith

  pub behind_all : length out ≤ at + length text → length out ≡ behind out at text
  unfolding behind
  behind_all h = omega arith

-- ---- laying two texts, the second at the place behind the first, is laying them as one
from_the_end : (out : List ℕ) (at : ℕ) (b : List ℕ) → laid out (behind out at []) b ≡ laid out at b
from_the_end out at b = go (leb (length out) at) refl
  where
    go : (t : Bool) → leb (length out) at ≡ t → laid out (behind out at []) b ≡ laid out at b
    go true e =
        let h = leb-true (length out) at e in
        ap (λ (k : ℕ). laid out k b) (sym (behind_all out at [] (omega arith)))
        ∙ no_room_lem out (length out) b (omega arith) ∙ sym (no_room_lem out at b h)
    go false e =
        let h = leb-false (length out) at e in
        let n : at + length {A = ℕ} [] ≡ at = omega arith in
        ap (λ (k : ℕ). laid out k b) (sym (behind-text out at [] (omega arith)) ∙ n)

behind_one : (out : List ℕ) (at c : ℕ) (a : List ℕ) → behind (set out at c) (at + 1) a ≡ behind out at (c ∷ a)
unfolding behind
behind_one out at c a = let e = length-set out at c in omega arith

pub laid_on : (a out : List ℕ) (at : ℕ) (b : List ℕ) → laid (laid out at a) (behind out at a) b ≡ laid out at (a ++ b)
laid_on [] out at b = ap (λ (l : List ℕ). laid l (behind out at []) b) (nothing_laid out at) ∙ from_the_end out at b
laid_on (c ∷ a) out at b = go (leb (length out) at) refl (laid_on a (set out at c) (at + 1) b)
  where
    go : (t : Bool) → leb (length out) at ≡ t
        → laid (laid (set out at c) (at + 1) a) (behind (set out at c) (at + 1) a) b ≡ laid (set out at c) (at + 1) (a ++ b)
        → laid (laid out at (c ∷ a)) (behind out at (c ∷ a)) b ≡ laid out at (c ∷ a ++ b)
    go true e m =
        let h = leb-true (length out) at e in
        ap (λ (l : List ℕ). laid l (behind out at (c ∷ a)) b) (no_room_lem out at (c ∷ a) h)
        ∙ ap (λ (k : ℕ). laid out k b) (sym (behind_all out at (c ∷ a) (omega arith)))
        ∙ no_room_lem out (length out) b (omega arith) ∙ sym (no_room_lem out at (c ∷ a ++ b) h)
    go false e m =
        let h = leb-false (length out) at e in
        ap (λ (l : List ℕ). laid l (behind out at (c ∷ a)) b) (sym (one_laid out at c a h))
        ∙ ap (λ (k : ℕ). laid (laid (set out at c) (at + 1) a) k b) (sym (behind_one out at c a))
        ∙ m ∙ one_laid out at c (a ++ b) h

pub behind_on : (a out : List ℕ) (at : ℕ) (b : List ℕ) → behind (laid out at a) (behind out at a) b ≡ behind out at (a ++ b)
unfolding behind
behind_on a out at b =
    let n = length-laid a out at in
    let m = length-append a b in
    omega arith

pub puts_on : {a b out : List ℕ} {at : ℕ} {middle : List ℕ} {p : ℕ} {exit : List ℕ} {r : ℕ}
    → Puts a out at middle p → Puts b middle p exit r → Puts (a ++ b) out at exit r
puts_on {a} {b} {out} {at} {middle} {p} {exit} {r} x y = record {
  leaves = y.leaves ∙ ap (λ (l : List ℕ). laid l p b) x.leaves ∙ ap (λ (k : ℕ). laid (laid out at a) k b) x.place ∙ laid_on a out at b;
  place = y.place ∙ ap (λ (l : List ℕ). behind l p b) x.leaves ∙ ap (λ (k : ℕ). behind (laid out at a) k b) x.place ∙ behind_on a out at b;
}

-- the same text said otherwise
pub puts_as : {a b out : List ℕ} {at : ℕ} {exit : List ℕ} {r : ℕ} → a ≡ b → Puts a out at exit r → Puts b out at exit r
puts_as {a} {b} {out} {at} e x = record { leaves = x.leaves ∙ ap (laid out at) e; place = x.place ∙ ap (behind out at) e }

-- nothing put inside the space
pub puts_nothing : (out : List ℕ) (at : ℕ) → at ≤ length out → Puts [] out at out at
puts_nothing out at h =
    let n : at ≡ at + length {A = ℕ} [] = omega arith in
    record { leaves = sym (nothing_laid out at); place = n ∙ behind-text out at [] (omega arith) }

-- one byte put, or none where the space ends
pub puts_byte : (out : List ℕ) (at c : ℕ) → at < length out → Puts (c ∷ []) out at (set out at c) (at + 1)
puts_byte out at c h = record {
  leaves = sym (nothing_laid (set out at c) (at + 1)) ∙ one_laid out at c [] h;
  place = behind-text out at (c ∷ []) (omega arith);
}

pub puts_no_byte : (out : List ℕ) (at c : ℕ) → at ≡ length out → Puts (c ∷ []) out at out at
puts_no_byte out at c e = record {
  leaves = sym (no_room_lem out at (c ∷ []) (omega arith));
  place = e ∙ behind_all out at (c ∷ []) (omega arith);
}

-- ---- a text put at the front of a space stands there, as far as there is room
pub front_laid : (out text : List ℕ) → take (behind out 0 text) (laid out 0 text) ≡ take (length out) text
unfolding laid behind
front_laid out text = go (leb (length text) (length out)) refl
  where
    all : List ℕ
    all = text ++ drop (0 + length text) out

    go : (b : Bool) → leb (length text) (length out) ≡ b → take (min (0 + length text) (length out)) (take (length out) all) ≡ take (length out) text
    go true e =
        let h = leb-true (length text) (length out) e in
        let n : min (0 + length text) (length out) ≡ length text = omega arith in
        ap (λ (k : ℕ). take k (take (length out) all)) n ∙ take-take (length text) (length out) all h
        ∙ take-append_seam text (drop (0 + length text) out) ∙ sym (take_all (length out) text h)
    go false e =
        let h = leb-false (length text) (length out) e in
        let n : min (0 + length text) (length out) ≡ length out = omega arith in
        ap (λ (k : ℕ). take k (take (length out) all)) n ∙ take-take (length out) (length out) all (omega arith)
        ∙ take-append-le (length out) text (drop (0 + length text) out) (omega arith)
