-- The lines of a text: the first one, cut off as the code does it, and those behind it.
use mathlib.Core.Path.{◌≡◌, refl, ap, ◌∙◌}
use mathlib.Core.Bool.{Bool, true, false}
use mathlib.Core.List.{List, [], ◌∷◌}
use Prim.Native.Nat.{ℕ, suc, ◌+◌, ◌≤◌, ◌<◌}
use native.Mathlib.Omega.{arith}
use native.Mathlib.Numerals.{add-one}
use lib.Dec.{eqb}
use lib.ListN.{length, take, drop, get_or, length-drop, drop_of_length-le}
use lib.Seq.{drop-cons}
use borrow.Author.Tests.{eq-eqb, ne_eqb}
use Rattle.laws.specs.Choice.{choose}
use Rattle.card_table.specs.Table.{in_front, lines}
use Rattle.card_table.specs.code.Line.{line_of}

-- ---- the first line
by_feed : (c : ℕ) (t : List ℕ) (b : Bool) → in_front c (lines t) ≡ (c ∷ line_of t) ∷ lines (drop (suc (length (line_of t))) t)
    → choose b ([] ∷ lines t) (in_front c (lines t)) ≡ choose b [] (c ∷ line_of t) ∷ lines (drop (suc (length (choose b [] (c ∷ line_of t)))) (c ∷ t))
by_feed c t true more = refl
by_feed c t false more = more

pub first_line : (c : ℕ) (t : List ℕ) → lines (c ∷ t) ≡ line_of (c ∷ t) ∷ lines (drop (suc (length (line_of (c ∷ t)))) (c ∷ t))
first_line c [] = by_feed c [] (eqb c 10) refl
first_line c (d ∷ t) = by_feed c (d ∷ t) (eqb c 10) (ap (in_front c) (first_line d t))

pub next_line : (l : List ℕ) → 0 < length l → lines l ≡ line_of l ∷ lines (drop (suc (length (line_of l))) l)
next_line [] h = absurd (omega arith)
next_line (c ∷ t) h = first_line c t

pub line_within : (l : List ℕ) → length (line_of l) ≤ length l
line_within [] = omega arith
line_within (c ∷ t) = go (eqb c 10) (line_within t)
  where
    go : (b : Bool) → length (line_of t) ≤ length t → length (choose b [] (c ∷ line_of t)) ≤ suc (length t)
    go true h = omega arith
    go false h = omega arith

line_in_front : (l : List ℕ) → take (length (line_of l)) l ≡ line_of l
line_in_front [] = refl
line_in_front (c ∷ t) = go (eqb c 10) (line_in_front t)
  where
    go : (b : Bool) → take (length (line_of t)) t ≡ line_of t → take (length (choose b [] (c ∷ line_of t))) (c ∷ t) ≡ choose b [] (c ∷ line_of t)
    go true h = refl
    go false h = ap (λ (x : List ℕ). c ∷ x) h

-- ---- from a place on
module _ (t : List ℕ) (i : ℕ) where
  pub feed_here : i < length t → get_or t i 0 ≡ 10 → length (line_of (drop i t)) ≡ 0
  feed_here h e = rw (drop-cons t i 0, eq-eqb (get_or t i 0) 10 e)

  pub feed_later : i < length t → (get_or t i 0 ≡ 10 → ⊥) → length (line_of (drop i t)) ≡ suc (length (line_of (drop (i + 1) t)))
  feed_later h n = rw (add-one, drop-cons t i 0, ne_eqb (get_or t i 0) 10 n)

  pub feed_none : length t ≤ i → length (line_of (drop i t)) ≡ 0
  feed_none h = rw (drop_of_length-le)

  -- the loop has come to place i, and all before it is of the first line
  module _ (e : i + length (line_of (drop i t)) ≡ length (line_of t)) where
    pub cut_here : i < length t → get_or t i 0 ≡ 10 → i ≡ length (line_of t)
    cut_here h f = let n = feed_here h f in omega arith

    pub cut_none : length t ≤ i → length t ≡ length (line_of t)
    cut_none h =
        let n = feed_none h in
        let w = line_within t in
        omega arith

pub line_taken : (t : List ℕ) (i : ℕ) → i ≡ length (line_of t) → take i t ≡ line_of t
line_taken t i e = ap (λ (k : ℕ). take k t) e ∙ line_in_front t

pub fewer : (t : List ℕ) → 0 < length t → length (drop (suc (length (line_of t))) t) < length t
fewer t h = let d = length-drop (suc (length (line_of t))) t in omega arith
