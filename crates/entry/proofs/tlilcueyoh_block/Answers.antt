use mathlib.Core.Path.{◌≡◌, sym, ap, ◌∙◌}
use mathlib.Core.List.{List, ◌++◌}
use Prim.Native.Nat.{ℕ}
use native.Mathlib.Omega.{arith}
use lib.ListN.{length, drop}
use Rattle.refusals.specs.Refusals as refusal
use Rattle.refusals.proofs.Numbers.{not_done}
use Rattle.blocks_lent.specs.Ways.{F}
use Rattle.blocks_lent.proofs.Each.{given_one}
use Rattle.cipher.specs.Schedule.{enciphered, deciphered}
use Rattle.cipher.specs.Calls.{schedule}
use Rattle.entry.specs.Entry.{entry_refusal, worked}
use Rattle.entry.proofs.Outcomes.{AcceptedCall, accepted_call, out_refused, out_done}
use Rattle.entry.proofs.tlilcueyoh_block.Goals as goal

pub returns-in-Err : goal.returns-in-Err
returns-in-Err c =
    let e = c.in-Err.ensures in
    record { answered = c.number.ensures ∙ e; left = out_refused _ _ _ _ _ (λ z. not_done c.in-Err.no (e ∙ z)) }

pub round_keys-keys-requires : goal.round_keys-keys-requires
round_keys-keys-requires c =
    let done : entry_refusal c.args.cipher c.args.direction c.args.key.now (length c.args.input.now) (length c.args.output.now) ≡ refusal.done = sym c.in_default.ensures in
    let accepted : AcceptedCall c.args.cipher c.args.direction c.args.key.now (length c.args.input.now) (length c.args.output.now) = accepted_call _ _ _ _ _ done in
    accepted.legal

pub run-requires : goal.run-requires
run-requires c =
    let done : entry_refusal c.args.cipher c.args.direction c.args.key.now (length c.args.input.now) (length c.args.output.now) ≡ refusal.done = sym c.in_default.ensures in
    let accepted : AcceptedCall c.args.cipher c.args.direction c.args.key.now (length c.args.input.now) (length c.args.output.now) = accepted_call _ _ _ _ _ done in
    let k = accepted in
    let w = k.whole in
    let f = k.fits in
    (k.legal, omega arith, omega arith)

pub returns : goal.returns
unfolding worked schedule enciphered deciphered
returns c =
    let done : entry_refusal c.args.cipher c.args.direction c.args.key.now (length c.args.input.now) (length c.args.output.now) ≡ refusal.done = sym c.in_default.ensures in
    let accepted : AcceptedCall c.args.cipher c.args.direction c.args.key.now (length c.args.input.now) (length c.args.output.now) = accepted_call _ _ _ _ _ done in
    let a = c.args in
    let w = accepted.whole in
    let under = ap (λ (k : List ℕ). F (record { cipher = c.args.cipher; length = length c.args.key.now; direction = c.args.direction }) k a.input.now ++ drop 16 a.output.now) c.round_keys-keys.ensures in
    record {
      answered = sym done;
      left =
          c.run.ensures ∙ given_one (F (record { cipher = c.args.cipher; length = length c.args.key.now; direction = c.args.direction }) c.round_keys-keys.result) a.input.now a.output.now w ∙ under
          ∙ out_done a.cipher a.direction a.key.now a.input.now a.output.now done;
    }
