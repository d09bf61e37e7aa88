-- What set-up returns, its answer by the paper's number.
use Rattle.std.specs.Prelude.{ℕ}
use Rattle.refusals.specs.Numbers.{number}
use Rattle.cipher.specs.declared.Schedule.{Schedule}
use Rattle.cipher.specs.declared.SetUp as code

pub record SetUp : Type 0 where
  pub answer : ℕ
  pub schedule : Schedule

abbrev pub in_numbers : code.SetUp → SetUp
in_numbers r = record { answer = number r.answer; schedule = r.schedule }
