-- What the works of the benchmark answer for cards, and write, on any input. They are made of the public calls' definitions.
use Rattle.std.specs.Prelude.{◌≡◌, List, ℕ, length}
use Rattle.laws.specs.Choice.{choose}
use Rattle.card_slots.specs.Card.{good}
use Rattle.card_slots.specs.Find.{find_part}
use Rattle.card_compare.specs.Promises.{compare_written, compare_out}

pub record MeasuresGood (card : List ℕ) (r : ℕ) : Type 0 where
  pub answered : r ≡ choose (good card) 1 0

pub record MeasuresFind (card : List ℕ) (recipe segment : ℕ) (r : ℕ) : Type 0 where
  pub answered : r ≡ length (find_part card (recipe, segment))

pub record MeasuresCompare (first second out : List ℕ) (r : ℕ) (out' : List ℕ) : Type 0 where
  pub answered : r ≡ compare_written first second out
  pub left : out' ≡ compare_out first second out
