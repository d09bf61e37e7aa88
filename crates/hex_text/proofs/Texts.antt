-- Steps through a text of hex digits: the first bad character, the next digit, the next byte, and the bytes laid out.
use mathlib.Core.Path.{◌≡◌, refl, sym, ap, ◌∙◌}
use mathlib.Core.Bool.{Bool, true, false, not, cond}
use Rattle.std.specs.List.{count_by}
use Rattle.std.proofs.lemmas.List.Recursion.{is_count_by}
use mathlib.Core.List.{List, [], ◌∷◌, ◌++◌, append-nil}
use Prim.Native.Nat.{ℕ, zero, suc, ◌+◌, ◌*◌, ◌≤◌, ◌<◌, suc-le-suc}
use native.Mathlib.Nat.{le_of_suc-le-suc, not-suc-le-zero}
use native.Mathlib.Omega.{arith}
use native.Mathlib.Numerals.{add-one}
use lib.ListN.{length, get_or, set, take, drop, length-set, take-append-drop, drop_of_length-le}
use lib.Seq.{drop-cons, drop-drop, drop-set-lt, append_snoc, take-suc-set}
use lib.Dec.{eqb}
use borrow.Author.Tests.{eqb-false}
use Rattle.hex_text.specs.Hex.{white, value, bad, byte, first_bad, digits, joined, Good}
use Rattle.laws.specs.Choice.{choose}
use Rattle.hex_text.specs.Steps.{NextDigit, NextByte}

-- ---- the first bad character, and how many digits there are
pub bad_here : (l : List ℕ) (i : ℕ) → i < length l → bad (get_or l i 0) ≡ true → first_bad (drop i l) ≡ 0
bad_here l i h e = rw (drop-cons l i 0, e)

pub bad_later : (l : List ℕ) (i : ℕ) → i < length l → bad (get_or l i 0) ≡ false → first_bad (drop i l) ≡ suc (first_bad (drop (i + 1) l))
bad_later l i h e = rw (add-one, drop-cons l i 0, e)

pub bad_end : (l : List ℕ) (i : ℕ) → length l ≤ i → first_bad (drop i l) ≡ 0
bad_end l i h = rw drop_of_length-le

pub digits_are : (l : List ℕ) → length (digits l) ≡ count_by (λ c. not (white c)) l
digits_are = is_count_by (λ l. length (digits l)) (λ c. not (white c)) refl (λ c l. at_one (white c) (value c) (digits l))
  where
    at_one : (t : Bool) (v : ℕ) (ds : List ℕ) → length (choose t ds (v ∷ ds)) ≡ cond (not t) (1 + length ds) (length ds)
    at_one true v ds = refl
    at_one false v ds = omega arith

pub bad_within : (l : List ℕ) → first_bad l ≤ length l
bad_within [] = omega arith
bad_within (c ∷ l) = go (bad c) (bad_within l)
  where
    go : (t : Bool) → first_bad l ≤ length l → choose t 0 (suc (first_bad l)) ≤ suc (length l)
    go true h = omega arith
    go false h = omega arith

-- ---- every character of a good text
good_cons : (c : ℕ) (l : List ℕ) (t : Bool) → bad c ≡ t → Good (c ∷ l) → (bad c ≡ false) × Good l
good_cons c l true p e = let z : 0 ≡ suc (length l) = rw p at e in absurd (omega arith)
good_cons c l false p e = (p, let z : suc (first_bad l) ≡ suc (length l) = rw p at e in omega arith)

good_at : (l : List ℕ) (i : ℕ) → Good l → i < length l → bad (get_or l i 0) ≡ false
good_at [] i g h = absurd (not-suc-le-zero h)
good_at (c ∷ l) zero g h = (good_cons c l (bad c) refl g).0
good_at (c ∷ l) (suc i) g h = good_at l i (good_cons c l (bad c) refl g).1 (le_of_suc-le-suc h)

not_sixteen : (c v : ℕ) → bad c ≡ false → white c ≡ false → v ≡ value c → v ≤ 16 → v < 16
unfolding bad
not_sixteen c v b w e h =
    let z : eqb (value c) 16 ≡ false = rw w at b in
    let n = eqb-false (value c) 16 z in
    omega arith

pub digit_small : {l : List ℕ} {from here : ℕ} (v : ℕ) → Good l → NextDigit l from here → v ≡ value (get_or l here 0) → v ≤ 16 → v < 16
digit_small {l} {from} {here} v g d = not_sixteen (get_or l here 0) v (good_at l here g d.within) d.digit

-- ---- the digits from a place on
pub digits-white : (l : List ℕ) (i : ℕ) → i < length l → white (get_or l i 0) ≡ true → digits (drop i l) ≡ digits (drop (i + 1) l)
digits-white l i h e = rw (add-one, drop-cons l i 0, e)

pub digits_digit : (l : List ℕ) (i : ℕ) → i < length l → white (get_or l i 0) ≡ false
    → digits (drop i l) ≡ value (get_or l i 0) ∷ digits (drop (i + 1) l)
digits_digit l i h e = rw (add-one, drop-cons l i 0, e)

pub digits_end : (l : List ℕ) (i : ℕ) → length l ≤ i → digits (drop i l) ≡ []
digits_end l i h = rw drop_of_length-le

pub some_left : (l : List ℕ) (i : ℕ) → 0 < length (digits (drop i l)) → i < length l
some_left [] zero h = absurd (not-suc-le-zero h)
some_left [] (suc i) h = absurd (not-suc-le-zero h)
some_left (c ∷ l) zero h = omega arith
some_left (c ∷ l) (suc i) h = suc-le-suc (some_left l i h)

-- two digits to a byte
pub byte_next : {l : List ℕ} {from high low : ℕ} (b : ℕ) → NextDigit l from high → NextDigit l (high + 1) low
    → b ≡ byte (value (get_or l high 0)) (value (get_or l low 0)) → NextByte l from b (low + 1)
byte_next {l} {from} {high} {low} b d e p =
    let q : digits (drop from l) ≡ value (get_or l high 0) ∷ value (get_or l low 0) ∷ digits (drop (low + 1) l)
    = d.rest ∙ ap (λ (ds : List ℕ). value (get_or l high 0) ∷ ds) e.rest in
    let w = e.within in
    record { within = omega arith; fewer = ap length q; rest = ap joined q ∙ ap (λ (x : ℕ). x ∷ joined (digits (drop (low + 1) l))) (sym p) }

-- ---- k of n bytes laid out, of the characters before i
pub record Laying (text before out : List ℕ) (n i k : ℕ) : Type 0 where
  pub few : k ≤ n
  pub left : length (digits (drop i text)) + 2 * k ≡ 2 * n
  pub same : length out ≡ length before
  pub laid : take k out ++ joined (digits (drop i text)) ≡ joined (digits text)
  pub kept : drop k out ≡ drop k before

none_left : (l : List ℕ) → length l ≡ 0 → l ≡ []
none_left [] h = refl
none_left (x ∷ l) h = absurd (omega arith)

module _ {text before out : List ℕ} {n i k : ℕ} where
  pub laying_step : (b next : ℕ) → Laying text before out n i k → k < n → n ≤ length before → NextByte text i b next
      → Laying text before (set out k b) n next (k + 1)
  laying_step b next s h room e =
      let a = s.left in
      let f = e.fewer in
      let z = s.same in
      let rest = joined (digits (drop next text)) in
      let t : take (k + 1) (set out k b) ≡ take k out ++ (b ∷ []) = rw add-one (take-suc-set out k b (omega arith)) in
      record {
        few = omega arith;
        left = omega arith;
        same = length-set out k b ∙ s.same;
        laid =
            ap (λ (l : List ℕ). l ++ rest) t
            ∙ append_snoc (take k out) b rest
            ∙ ap (λ (l : List ℕ). take k out ++ l) (sym e.rest)
            ∙ s.laid;
        kept =
            drop-set-lt (k + 1) out k b (omega arith)
            ∙ sym (drop-drop 1 k out)
            ∙ ap (drop 1) s.kept
            ∙ drop-drop 1 k before;
      }

  pub laying_end : Laying text before out n i k → n ≤ k → out ≡ joined (digits text) ++ drop n before
  laying_end s h =
      let a = s.left in
      let f = s.few in
      let z : digits (drop i text) ≡ [] = none_left (digits (drop i text)) (omega arith) in
      let e : k ≡ n = omega arith in
      sym (take-append-drop k out)
      ∙ ap (λ (l : List ℕ). take k out ++ l) s.kept
      ∙ ap (λ (l : List ℕ). l ++ drop k before)
      (sym (append-nil (take k out)) ∙ ap (λ (l : List ℕ). take k out ++ joined l) (sym z) ∙ s.laid)
      ∙ ap (λ (j : ℕ). joined (digits text) ++ drop j before) e
