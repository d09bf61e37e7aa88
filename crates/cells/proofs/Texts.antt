-- Steps through a text: blanks taken off, the characters before a comma or a quote, and before a closing quote.
use mathlib.Core.Path.{◌≡◌, refl, sym, ap, ◌∙◌}
use mathlib.Core.Bool.{Bool, true, false, ◌||◌}
use mathlib.Core.List.{List, [], ◌∷◌, ◌++◌, reverse, reverse-append, reverse-cons, reverse-reverse}
use Prim.Native.Nat.{ℕ, suc, ◌+◌, ◌-◌, ◌≤◌, ◌<◌, suc-le-suc}
use native.Mathlib.Omega.{arith}
use native.Mathlib.Numerals.{add-one}
use lib.Dec.{eqb}
use lib.ListN.{length, get_or, take, drop, drop_of_length-le}
use lib.Seq.{drop-cons, take-suc, take_all}
use borrow.Author.Tests.{le-leb, lt-leb, eq-eqb, ne_eqb}
use Rattle.laws.specs.Choice.{choose}
use Rattle.cells.specs.Cells.{between, is_blank, behind_blanks, before_blanks, plain, in_quotes, begins, part}

-- ---- blanks at the front
pub blank_first : (l : List ℕ) → 1 ≤ length l → is_blank (get_or l 0 0) ≡ true → behind_blanks (drop 1 l) ≡ behind_blanks l
blank_first [] h e = absurd (omega arith)
blank_first (c ∷ l) h e = rw e

pub no_blank_first : (l : List ℕ) → 1 ≤ length l → is_blank (get_or l 0 0) ≡ false → behind_blanks l ≡ l
no_blank_first [] h e = absurd (omega arith)
no_blank_first (c ∷ l) h e = rw e

pub no_text_first : (l : List ℕ) → length l < 1 → behind_blanks l ≡ l
no_text_first [] h = refl
no_text_first (c ∷ l) h = absurd (omega arith)

-- ---- blanks at the end
blank_last : (l : List ℕ) (b : ℕ) → is_blank b ≡ true → before_blanks (l ++ (b ∷ [])) ≡ before_blanks l
unfolding before_blanks
blank_last l b e = rw (reverse-append l (b ∷ []), e)

no_blank_last : (l : List ℕ) (b : ℕ) → is_blank b ≡ false → before_blanks (l ++ (b ∷ [])) ≡ l ++ (b ∷ [])
unfolding before_blanks
no_blank_last l b e =
    rw (reverse-append l (b ∷ []), e) (reverse-cons b (reverse l) ∙ ap (λ (s : List ℕ). s ++ (b ∷ [])) (reverse-reverse l))

module _ (l : List ℕ) (some : 1 ≤ length l) where
  last_taken : l ≡ take (length l - 1) l ++ (get_or l (length l - 1) 0 ∷ [])
  last_taken =
      let m : length l ≡ suc (length l - 1) = omega arith in
      sym (take_all (length l) l (omega arith)) ∙ ap (λ (k : ℕ). take k l) m ∙ take-suc l (length l - 1) 0 (omega arith)

  pub blank_before : is_blank (get_or l (length l - 1) 0) ≡ true → before_blanks (take (length l - 1) l) ≡ before_blanks l
  blank_before e = sym (ap before_blanks last_taken ∙ blank_last (take (length l - 1) l) (get_or l (length l - 1) 0) e)

  pub no_blank_before : is_blank (get_or l (length l - 1) 0) ≡ false → before_blanks l ≡ l
  no_blank_before e = ap before_blanks last_taken ∙ no_blank_last (take (length l - 1) l) (get_or l (length l - 1) 0) e ∙ sym last_taken

pub nothing_before : (l : List ℕ) → length l < 1 → before_blanks l ≡ l
unfolding before_blanks
nothing_before [] h = refl
nothing_before (c ∷ l) h = absurd (omega arith)

-- ---- the character at the front of a text
pub begins_first : (c : ℕ) (l : List ℕ) → 1 ≤ length l → get_or l 0 0 ≡ c → begins c l ≡ true
begins_first c [] h e = absurd (omega arith)
begins_first c (x ∷ l) h e = eq-eqb x c e

pub begins_not : (c : ℕ) (l : List ℕ) → (1 ≤ length l → get_or l 0 0 ≡ c → ⊥) → begins c l ≡ false
begins_not c [] n = refl
begins_not c (x ∷ l) n = ne_eqb x c (n (omega arith))

-- ---- the front of a text
abbrev Front : List ℕ → List ℕ → Type 0
Front p l = (take (length p) l ≡ p) × (length p ≤ length l)

no_front : (l : List ℕ) → Front [] l
no_front l = (refl, omega arith)

front_cons : (c : ℕ) (p l : List ℕ) → Front p l → Front (c ∷ p) (c ∷ l)
front_cons c p l h = (ap (λ (s : List ℕ). c ∷ s) h.0, suc-le-suc h.1)

one_front : (t : Bool) (p q l : List ℕ) → Front p l → Front q l → Front (choose t p q) l
one_front true p q l h k = h
one_front false p q l h k = k

-- ---- before a comma or a quote
module _ (l : List ℕ) (i : ℕ) where
  pub plain_stops : i < length l → (eqb (get_or l i 0) 44 || eqb (get_or l i 0) 34) ≡ true → length (plain (drop i l)) ≡ 0
  plain_stops h e = rw (drop-cons l i 0, e)

  pub plain_goes_on : i < length l → (eqb (get_or l i 0) 44 || eqb (get_or l i 0) 34) ≡ false
      → length (plain (drop i l)) ≡ suc (length (plain (drop (i + 1) l)))
  plain_goes_on h e = rw (add-one, drop-cons l i 0, e)

  pub plain_end : length l ≤ i → length (plain (drop i l)) ≡ 0
  plain_end h = rw drop_of_length-le

pub plain_front : (l : List ℕ) → Front (plain l) l
plain_front [] = no_front []
plain_front (c ∷ l) =
    one_front (eqb c 44 || eqb c 34) [] (c ∷ plain l) (c ∷ l) (no_front (c ∷ l)) (front_cons c (plain l) l (plain_front l))

-- ---- before a closing quote
other_in_quotes : (c : ℕ) (l : List ℕ) → eqb c 34 ≡ false → in_quotes (c ∷ l) ≡ c ∷ in_quotes l
other_in_quotes c [] e = rw e
other_in_quotes c (d ∷ l) e = rw e

closing_in_quotes : (c : ℕ) (l : List ℕ) → eqb c 34 ≡ true → begins 34 l ≡ false → in_quotes (c ∷ l) ≡ []
closing_in_quotes c [] e f = rw e
closing_in_quotes c (d ∷ l) e f = rw (e, f)

doubled_in_quotes : (c d : ℕ) (l : List ℕ) → eqb c 34 ≡ true → eqb d 34 ≡ true → in_quotes (c ∷ d ∷ l) ≡ c ∷ d ∷ in_quotes l
doubled_in_quotes c d l e f = rw (e, f)

pub quotes_other : (l : List ℕ) → 1 ≤ length l → (get_or l 0 0 ≡ 34 → ⊥) → length (in_quotes l) ≡ suc (length (in_quotes (drop 1 l)))
quotes_other [] h n = absurd (omega arith)
quotes_other (c ∷ l) h n = ap length (other_in_quotes c l (ne_eqb c 34 n))

pub quotes_doubled : (l : List ℕ) → 2 ≤ length l → get_or l 0 0 ≡ 34 → get_or l 1 0 ≡ 34
    → length (in_quotes l) ≡ suc (suc (length (in_quotes (drop 2 l))))
quotes_doubled [] h e f = absurd (omega arith)
quotes_doubled (c ∷ []) h e f = absurd (omega arith)
quotes_doubled (c ∷ d ∷ l) h e f = ap length (doubled_in_quotes c d l (eq-eqb c 34 e) (eq-eqb d 34 f))

pub quotes_closing : (l : List ℕ) → 1 ≤ length l → get_or l 0 0 ≡ 34 → (2 ≤ length l → get_or l 1 0 ≡ 34 → ⊥) → length (in_quotes l) ≡ 0
quotes_closing [] h e n = absurd (omega arith)
quotes_closing (c ∷ []) h e n = ap length (closing_in_quotes c [] (eq-eqb c 34 e) refl)
quotes_closing (c ∷ d ∷ l) h e n = ap length (closing_in_quotes c (d ∷ l) (eq-eqb c 34 e) (ne_eqb d 34 (n (omega arith))))

pub quotes_front : (l : List ℕ) → Front (in_quotes l) l
quotes_front [] = no_front []
quotes_front (c ∷ []) = one_front (eqb c 34) [] (c ∷ []) (c ∷ []) (no_front (c ∷ [])) (front_cons c [] [] (no_front []))
quotes_front (c ∷ d ∷ l) =
    let line = c ∷ d ∷ l in
    let two = front_cons c (d ∷ in_quotes l) (d ∷ l) (front_cons d (in_quotes l) l (quotes_front l)) in
    one_front (eqb c 34) (choose (eqb d 34) (c ∷ d ∷ in_quotes l) []) (c ∷ in_quotes (d ∷ l)) line
    (one_front (eqb d 34) (c ∷ d ∷ in_quotes l) [] line two (no_front line))
    (front_cons c (in_quotes (d ∷ l)) (d ∷ l) (quotes_front (d ∷ l)))

-- ---- parts
module _ (l : List ℕ) (from to : ℕ) where
  pub part_past : length l < to → [] ≡ part from to l
  unfolding part
  part_past h = rw (lt-leb to (length l))

  pub part_none : to ≤ length l → to < from → [] ≡ part from to l
  unfolding part
  part_none h k =
      let e : to - from ≡ 0 = omega arith in
      rw (le-leb to (length l), e)

  pub part_is : to ≤ length l → part from to l ≡ between from to l
  unfolding part
  part_is h = rw (le-leb to (length l))
