-- A cell as the code has it, and what a line was found to hold.
use Rattle.std.specs.Prelude.{◌≡◌, true, Option, Some, None, List, length}
use Rattle.cells.specs.Cells.{out_of_place, all_good, any_filled}
use Rattle.cells.specs.declared.Cell.{Cell}
use Rattle.cells.specs.declared.Line.{Line}
use Rattle.cells.specs.Cells as page

-- the cell, or none where a quote of it is out of place
abbrev pub Is : page.Cell → Option Cell → Type 0
Is c None = c ≡ out_of_place
Is c (Some r) = c ≡ record { good = true; text = r.text.now; rest = r.rest.now }

pub record Holds (cs : List page.Cell) (r : Line) : Type 0 where
  pub good : r.good ≡ all_good cs
  pub cells : r.cells ≡ length cs
  pub filled : r.filled ≡ any_filled cs
