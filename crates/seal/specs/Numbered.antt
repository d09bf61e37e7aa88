-- What the four calls of a seal return, their answers by the paper's numbers.
use Rattle.std.specs.Prelude.{Bool, ℕ}
use Rattle.refusals.specs.Numbers.{number}
use Rattle.seal.specs.declared.Seal.{Seal}
use Rattle.seal.specs.declared.Started as started
use Rattle.seal.specs.declared.Fed as fed
use Rattle.seal.specs.declared.Written as written
use Rattle.seal.specs.declared.Checked as checked

pub record Started : Type 0 where
  pub answer : ℕ
  pub seal : Seal

pub record Fed : Type 0 where
  pub answer : ℕ
  pub next : Seal

pub record Written : Type 0 where
  pub answer : ℕ
  pub next : Seal

pub record Checked : Type 0 where
  pub answer : ℕ
  pub yes : Bool
  pub next : Seal

abbrev pub started_in_numbers : started.Started → Started
started_in_numbers r = record { answer = number r.answer; seal = r.seal }

abbrev pub fed_in_numbers : fed.Fed → Fed
fed_in_numbers r = record { answer = number r.answer; next = r.next }

abbrev pub written_in_numbers : written.Written → Written
written_in_numbers r = record { answer = number r.answer; next = r.next }

abbrev pub checked_in_numbers : checked.Checked → Checked
checked_in_numbers r = record { answer = number r.answer; yes = r.yes; next = r.next }
