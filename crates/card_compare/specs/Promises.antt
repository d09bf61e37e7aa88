-- What comparing two cards promises, on any input: the answer, the number of bytes written, and every byte of the output (02, request 6).
use Rattle.std.specs.Prelude.{◌≡◌, not, List, ◌++◌, ℕ, eqb, ltb, length, drop}
use Rattle.laws.specs.Choice.{choose}
use Rattle.refusals.specs.Refusals.{done, compare_order}
use Rattle.card_slots.specs.Card.{good}
use Rattle.card_compare.specs.Compare.{differences}

unfoldable pub compare_answer : List ℕ → List ℕ → List ℕ → ℕ
compare_answer a b out = compare_order (not (good a)) (not (good b)) (ltb (length out) (length (differences a b)))

-- refused, nothing is written and 0 is reported
unfoldable pub compare_written : List ℕ → List ℕ → List ℕ → ℕ
compare_written a b out = choose (eqb (compare_answer a b out) done) (length (differences a b)) 0

-- the list at the front; what is behind it stands
unfoldable pub compare_out : List ℕ → List ℕ → List ℕ → List ℕ
compare_out a b out = choose (eqb (compare_answer a b out) done) (differences a b ++ drop (length (differences a b)) out) out

-- comparing the card a with the card b answers n, reports w bytes and leaves out'
pub record Compares (a b out : List ℕ) (n w : ℕ) (out' : List ℕ) : Type 0 where
  pub answered : n ≡ compare_answer a b out
  pub reported : w ≡ compare_written a b out
  pub left : out' ≡ compare_out a b out
