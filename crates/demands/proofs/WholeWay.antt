-- The whole way: for every legal key that isn't blank, first block and direction, set-up and start accept, and however the pieces are cut, they write the CBC of
-- the cipher's own written definition under the round keys that its definition makes of the key.
use mathlib.Core.Path.{◌≡◌, ap, ◌∙◌}
use mathlib.Core.Bool.{true}
use mathlib.Core.List.{List}
use Prim.Native.Nat.{ℕ}
use lib.ListN.{length}
use borrow.Author.Tests.{eq-eqb}
use Rattle.refusals.specs.Refusals.{done}
use Rattle.cbc.specs.Cbc.{answer}
use Rattle.cipher_numbers.specs.Ciphers.{number, is_direction, padded}
use Rattle.cipher.specs.Schedule.{enciphered, deciphered}
use Rattle.cipher.specs.Calls.{Usable, schedule, set_up}
use Rattle.cipher.specs.declared.Schedule.{Schedule}
use Rattle.cipher.proofs.Answers.{usable_accepted}
use Rattle.stream.specs.Calls.{start_refusal, start}
use Rattle.stream.specs.declared.Stream.{Stream}
use Rattle.demands.specs.Demand3.{Call, accepted_bytes, written_bytes}
use Rattle.demands.proofs.Keys.{set_up_good}
use Rattle.demands.proofs.AnyCut.{written_is}

-- ---- set-up, of every key that it takes
module _ (n : ℕ) (key : List ℕ) (usable : Usable n key) where
  pub set_up_accepts : (set_up n key).answer ≡ done
  unfolding set_up
  set_up_accepts = rw (usable_accepted n key usable)

  pub made : (set_up n key).schedule ≡ schedule n key
  unfolding set_up
  made = rw (usable_accepted n key usable)

-- ---- and a stream
module _ (n : ℕ) (key : List ℕ) (usable : Usable n key) (d : ℕ) (directed : is_direction d ≡ true)
    (first : List ℕ) (block : length first ≡ 16) where
  pub start_accepts : (start (set_up n key).schedule d first).answer ≡ done
  unfolding start start_refusal
  start_accepts = rw (made n key usable, set_up_good n key usable.legal, directed, eq-eqb _ _ block)

  -- the stream that the calls give
  abbrev begun : Stream
  begun = (start (set_up n key).schedule d first).stream

  pub whole_way : (cs : List Call)
      → written_bytes begun cs
      ≡ answer ((number n).encipher (length key) (padded ((number n).round_keys key))) ((number n).decipher (length key) (padded ((number n).round_keys key)))
      d first (accepted_bytes begun cs)
  unfolding enciphered deciphered schedule
  whole_way cs =
      written_is (set_up n key).schedule d first start_accepts cs
      ∙ ap (λ (s : Schedule). answer (enciphered s) (deciphered s) d first (accepted_bytes begun cs)) (made n key usable)
