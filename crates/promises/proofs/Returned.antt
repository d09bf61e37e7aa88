-- A result is one with another where both are the same in numbers: so the theorems of Unique, which speak of numbers, fix what is returned.
use mathlib.Core.Path.{◌≡◌, ap}
use Rattle.std.specs.Prelude.{Result}
use Rattle.refusals.specs.declared.Refusal.{Refusal}
use Rattle.refusals.proofs.Numbers.{one_number}
use Rattle.cipher.specs.Numbered as ciphers
use Rattle.stream.specs.Numbered as streams
use Rattle.seal.specs.Numbered as seals
use Rattle.cipher.specs.declared.SetUp as cipher-setup
use Rattle.stream.specs.declared.Started as stream-started
use Rattle.stream.specs.declared.Fed as stream-fed
use Rattle.stream.specs.declared.Finished as stream-finished
use Rattle.seal.specs.declared.Started as seal-started
use Rattle.seal.specs.declared.Fed as seal-fed
use Rattle.seal.specs.declared.Written as seal-written
use Rattle.seal.specs.declared.Checked as seal-checked

pub told_set_up : (r r' : cipher-setup.SetUp) → ciphers.in_numbers r ≡ ciphers.in_numbers r' → r ≡ r'
told_set_up r r' e = λ j. record { answer = one_number r.answer r'.answer (ap (λ (x : ciphers.SetUp). x.answer) e) j; schedule = (e j).schedule }

pub told_start : (r r' : stream-started.Started (Result Unit Refusal)) → streams.started_in_numbers r ≡ streams.started_in_numbers r' → r ≡ r'
told_start r r' e = λ j. record { answer = one_number r.answer r'.answer (ap (λ (x : streams.Started). x.answer) e) j; stream = (e j).stream }

pub told_feed : (r r' : stream-fed.Fed) → streams.fed_in_numbers r ≡ streams.fed_in_numbers r' → r ≡ r'
told_feed r r' e = λ j. record { answer = one_number r.answer r'.answer (ap (λ (x : streams.Fed). x.answer) e) j; written = (e j).written; next = (e j).next }

pub told_finish : (r r' : stream-finished.Finished) → streams.finished_in_numbers r ≡ streams.finished_in_numbers r' → r ≡ r'
told_finish r r' e = λ j. record { answer = one_number r.answer r'.answer (ap (λ (x : streams.Finished). x.answer) e) j; next = (e j).next }

pub told_seal_start : (r r' : seal-started.Started) → seals.started_in_numbers r ≡ seals.started_in_numbers r' → r ≡ r'
told_seal_start r r' e = λ j. record { answer = one_number r.answer r'.answer (ap (λ (x : seals.Started). x.answer) e) j; seal = (e j).seal }

pub told_seal_piece : (r r' : seal-fed.Fed) → seals.fed_in_numbers r ≡ seals.fed_in_numbers r' → r ≡ r'
told_seal_piece r r' e = λ j. record { answer = one_number r.answer r'.answer (ap (λ (x : seals.Fed). x.answer) e) j; next = (e j).next }

pub told_seal_written : (r r' : seal-written.Written) → seals.written_in_numbers r ≡ seals.written_in_numbers r' → r ≡ r'
told_seal_written r r' e = λ j. record { answer = one_number r.answer r'.answer (ap (λ (x : seals.Written). x.answer) e) j; next = (e j).next }

pub told_seal_check : (r r' : seal-checked.Checked) → seals.checked_in_numbers r ≡ seals.checked_in_numbers r' → r ≡ r'
told_seal_check r r' e = λ j. record { answer = one_number r.answer r'.answer (ap (λ (x : seals.Checked). x.answer) e) j; yes = (e j).yes; next = (e j).next }
