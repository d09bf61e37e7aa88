-- The whole way: for every legal key that isn't blank set-up and start accept, and however the pieces are cut, what is written is the CMAC of the accepted bytes
-- over the cipher's own written definition, under the round keys that its definition makes of the key. And a seal has 16 bytes.
use mathlib.Core.Path.{◌≡◌, ap, ◌∙◌}
use mathlib.Core.Bool.{false}
use mathlib.Core.List.{List, [], ◌∷◌, ◌++◌}
use Prim.Native.Nat.{ℕ, ◌≤◌}
use lib.ListN.{length, drop}
use Rattle.laws.specs.Bytes.{xor_l}
use Rattle.refusals.specs.Refusals.{done}
use Rattle.cbc.proofs.Sized.{Sized}
use Rattle.cmac.specs.Cmac.{zero_block, complete, final, K1, K2, last, chained, cmac}
use Rattle.cmac.proofs.Cut.{chained_append}
use Rattle.cipher_numbers.specs.Ciphers.{number, padded}
use Rattle.cipher.specs.Schedule.{bad, enciphered}
use Rattle.cipher.specs.Calls.{Usable, schedule, set_up}
use Rattle.cipher.specs.declared.Schedule.{Schedule}
use Rattle.seal.specs.Calls.{start_refusal, start, write_out}
use Rattle.seal.specs.declared.Seal.{Seal}
use Rattle.demands.proofs.Keys.{set_up_good}
use Rattle.demands.proofs.Undo.{enciphered_long}
use Rattle.demands.proofs.WholeWay.{made}
use Rattle.seal_laws.specs.AnyCut.{Call, after, accepted_bytes}
use Rattle.seal_laws.proofs.AnyCut.{accepted_start, cut_anywhere}

-- ---- how long it is, over any block function that gives 16 bytes
pub cmac_long : (CIPH : List ℕ → List ℕ) → Sized CIPH → (m : List ℕ) → length (cmac CIPH m) ≡ 16
unfolding cmac
cmac_long CIPH sized m =
    let end = last (K1 CIPH) (K2 CIPH) (final m) in
    ap length (chained_append CIPH zero_block (complete m) (end ∷ [])) ∙ sized (xor_l 16 (chained CIPH zero_block (complete m)) end)

pub seal_long : (s : Schedule) → bad s ≡ false → (m : List ℕ) → length (cmac (enciphered s) m) ≡ 16
seal_long s g = cmac_long (enciphered s) (enciphered_long s g)

-- ---- from the key to the seal
module _ (n : ℕ) (key : List ℕ) (usable : Usable n key) where
  pub start_accepts : (start (set_up n key).schedule).answer ≡ done
  unfolding start start_refusal
  start_accepts = rw (made n key usable, set_up_good n key usable.legal)

  -- the seal that the calls give
  abbrev begun : Seal
  begun = (start (set_up n key).schedule).seal

  its_schedule : begun.schedule ≡ schedule n key
  its_schedule = ap (λ (u : Seal). u.schedule) (accepted_start (set_up n key).schedule start_accepts).seal ∙ made n key usable

  pub whole_way : (cs : List Call) → (after begun cs).closed ≡ false → (o : List ℕ) → 16 ≤ length o
      → write_out (after begun cs) o ≡ cmac ((number n).encipher (length key) (padded ((number n).round_keys key))) (accepted_bytes begun cs) ++ drop 16 o
  unfolding enciphered schedule
  whole_way cs u o h =
      ((cut_anywhere (set_up n key).schedule start_accepts cs).written u o h).1
      ∙ ap (λ (s : Schedule). cmac (enciphered s) (accepted_bytes begun cs) ++ drop 16 o) its_schedule
