-- What start, a piece and finish return, their answers by the paper's numbers.
use Rattle.std.specs.Prelude.{ℕ, Result}
use Rattle.refusals.specs.Numbers.{number}
use Rattle.refusals.specs.declared.Refusal.{Refusal}
use Rattle.stream.specs.declared.Stream.{Stream}
use Rattle.stream.specs.declared.Started as started
use Rattle.stream.specs.declared.Fed as fed
use Rattle.stream.specs.declared.Finished as finished

abbrev pub Started : Type 0
Started = started.Started ℕ

pub record Fed : Type 0 where
  pub answer : ℕ
  pub written : ℕ
  pub next : Stream

pub record Finished : Type 0 where
  pub answer : ℕ
  pub next : Stream

abbrev pub started_in_numbers : started.Started (Result Unit Refusal) → Started
started_in_numbers r = record { answer = number r.answer; stream = r.stream }

abbrev pub fed_in_numbers : fed.Fed → Fed
fed_in_numbers r = record { answer = number r.answer; written = r.written; next = r.next }

abbrev pub finished_in_numbers : finished.Finished → Finished
finished_in_numbers r = record { answer = number r.answer; next = r.next }
