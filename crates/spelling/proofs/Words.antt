-- A word and a name, letter by letter.
use mathlib.Core.Path.{◌≡◌, refl, sym, ap, ◌∙◌}
use mathlib.Core.Bool.{Bool, true, false}
use Rattle.std.specs.Char.{to_ascii_lowercase}
use Rattle.std.proofs.lemmas.Str.Ascii.{lowercase_is}
use Rattle.laws.specs.Range.{within}
use mathlib.Core.List.{List, [], ◌∷◌}
use Prim.Native.Nat.{ℕ, suc, ◌+◌, ◌≤◌, ◌<◌}
use native.Mathlib.Omega.{arith}
use native.Mathlib.Numerals.{add-one}
use lib.Dec.{eqb, leb}
use lib.ListN.{length, get_or, drop, drop_of_length-le}
use lib.Seq.{drop-cons}
use borrow.Author.Tests.{eq-eqb, ne_eqb, leb-true, leb-false}
use Rattle.laws.specs.Choice.{choose}
use Rattle.spelling.specs.Word.{small, spells}

pub other_length : (word name : List ℕ) → (length word ≡ length name → ⊥) → false ≡ spells word name
other_length [] [] n = absurd (n refl)
other_length [] (y ∷ ys) n = refl
other_length (x ∷ xs) [] n = refl
other_length (x ∷ xs) (y ∷ ys) n = go (eqb (small x) y) (other_length xs ys (λ e. n (ap suc e)))
  where
    go : (t : Bool) → false ≡ spells xs ys → false ≡ choose t (spells xs ys) false
    go true rest = rest
    go false rest = refl

-- ---- a letter made small, as std does it
pub lowercase_small : (c : ℕ) → to_ascii_lowercase c ≡ small c
unfolding small
lowercase_small c = go (leb 65 c) refl (leb c 90) refl
  where
    go : (a : Bool) → leb 65 c ≡ a → (b : Bool) → leb c 90 ≡ b → to_ascii_lowercase c ≡ choose (within 65 90 c) (c + 32) c
    go true p true q = (lowercase_is c).0 (leb-true 65 c p, leb-true c 90 q) ∙ sym (rw (p, q))
    go true p false q = (lowercase_is c).2 (leb-false c 90 q) ∙ sym (rw (p, q))
    go false p b q = (lowercase_is c).1 (leb-false 65 c p) ∙ sym (rw p)

-- ---- the loop: the first i letters are alike
pub record Alike (word name : List ℕ) (i : ℕ) : Type 0 where
  pub long : length word ≡ length name
  pub same : spells (drop i word) (drop i name) ≡ spells word name

module _ {word name : List ℕ} {i : ℕ} (a : Alike word name i) where
  pub alike_end : length name ≤ i → true ≡ spells word name
  alike_end h =
      let l = a.long in
      let k : length word ≤ i = omega arith in
      let e : spells (drop i word) (drop i name) ≡ true = rw (drop_of_length-le word, drop_of_length-le name) in
      sym e ∙ a.same

  module _ (h : i < length name) {s : ℕ} (e : s ≡ small (get_or word i 0)) where
    next : spells (drop i word) (drop i name) ≡ choose (eqb s (get_or name i 0)) (spells (drop (i + 1) word) (drop (i + 1) name)) false
    next =
        let l = a.long in
        let k : i < length word = omega arith in
        rw (e, add-one, drop-cons word i 0, drop-cons name i 0)

    pub alike_stop : (s ≡ get_or name i 0 → ⊥) → false ≡ spells word name
    alike_stop n = rw (ne_eqb s (get_or name i 0) n) at (sym next) ∙ a.same

    pub alike_step : s ≡ get_or name i 0 → Alike word name (i + 1)
    alike_step q = record { long = a.long; same = rw (eq-eqb s (get_or name i 0) q) at (sym next) ∙ a.same }
