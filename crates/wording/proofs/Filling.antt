-- Words with numbers among them, a character at a time.
use mathlib.Core.Path.{◌≡◌, sym, ap}
use mathlib.Core.Bool.{Bool, true, false, ◌||◌}
use mathlib.Core.List.{List, [], ◌∷◌, ◌++◌}
use Prim.Native.Nat.{ℕ, ◌+◌, ◌≤◌, ◌<◌}
use native.Mathlib.Omega.{arith}
use native.Mathlib.Numerals.{add-one}
use lib.Dec.{eqb}
use lib.ListN.{length, drop, get_or, drop_of_length-le}
use lib.Seq.{drop-cons}
use borrow.Author.Tests.{eq-eqb, ne_eqb}
use Rattle.laws.specs.Choice.{choose}
use Rattle.wording.specs.Numbers.{decimal, in_tenths}
use Rattle.wording.specs.Filled.{stands_for, uses, filled_from}

-- ---- what a character stands for
module _ (n c : ℕ) where
  pub stands_number : c ≡ 36 → decimal n ≡ stands_for n c
  unfolding stands_for
  stands_number e = rw (eq-eqb c 36 e)

  pub stands_tenths : c ≡ 126 → in_tenths n ≡ stands_for n c
  unfolding stands_for
  stands_tenths e = rw (e)

  pub stands_itself : (c ≡ 36 → ⊥) → (c ≡ 126 → ⊥) → c ∷ [] ≡ stands_for n c
  unfolding stands_for
  stands_itself e f = rw (ne_eqb c 36 e, ne_eqb c 126 f)

-- ---- how many numbers it uses up
module _ (c : ℕ) where
  pub uses_one : c ≡ 36 → 1 ≡ uses c
  unfolding uses
  uses_one e = rw e

  pub uses_one_too : c ≡ 126 → 1 ≡ uses c
  unfolding uses
  uses_one_too e = rw e

  pub uses_none : (c ≡ 36 → ⊥) → (c ≡ 126 → ⊥) → 0 ≡ uses c
  unfolding uses
  uses_none e f = rw (ne_eqb c 36 e, ne_eqb c 126 f)

  pub uses_few : uses c ≤ 1
  unfolding uses
  uses_few = go (eqb c 36 || eqb c 126)
    where
      go : (b : Bool) → choose b 1 0 ≤ 1
      go true = omega arith
      go false = omega arith

-- ---- the words from place i on
module _ (numbers text : List ℕ) (k i : ℕ) where
  pub next_filled : i < length text
      → stands_for (get_or numbers k 0) (get_or text i 0) ++ filled_from numbers (k + uses (get_or text i 0)) (drop (i + 1) text) ≡ filled_from numbers k (drop i text)
  next_filled h = rw (add-one i) (sym (ap (filled_from numbers k) (drop-cons text i 0 h)))

  pub none_filled : length text ≤ i → filled_from numbers k (drop i text) ≡ []
  none_filled h = ap (filled_from numbers k) (drop_of_length-le text h)
