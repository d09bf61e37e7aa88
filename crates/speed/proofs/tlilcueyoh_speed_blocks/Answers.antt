use mathlib.Core.Path.{◌≡◌, sym, ap, ◌∙◌}
use mathlib.Core.List.{List, ◌++◌}
use Prim.Native.Nat.{ℕ, ◌*◌, ◌/◌, ◌%◌, ◌<◌, ◌≤◌}
use native.Mathlib.Omega.{arith}
use lib.ListN.{length, drop}
use borrow.Author.Tests.{eq-eqb, ne_eqb, lt-ltb, le-ltb}
use Rattle.refusals.specs.Refusals as refusal
use Rattle.refusals.specs.declared.Refusal.TheVariants as Refusal
use Rattle.refusals.proofs.Numbers.{not_done}
use Rattle.cbc.specs.Cbc.{join, whole}
use Rattle.blocks_lent.specs.Ways.{F, each}
use Rattle.blocks_lent.specs.declared.Way.{Way}
use Rattle.cipher.specs.Schedule.{enciphered, deciphered}
use Rattle.cipher.specs.Calls.{schedule}
use Rattle.entry.specs.Entry.{entry_refusal, worked}
use Rattle.entry.proofs.Outcomes.{accepted_call}
use Rattle.speed.specs.Works.{blocks_refusal, blocks_out, WorksBlocks}
use Rattle.speed.proofs.tlilcueyoh_speed_blocks.Goals as goal

-- ---- the outcomes
module _ (c d : ℕ) (key : List ℕ) (n room : ℕ) where
  unlike : (r : ℕ) → r ≡ entry_refusal c d key 16 16 → (r ≡ refusal.done → ⊥) → r ≡ blocks_refusal c d key n room
  unfolding blocks_refusal
  unlike r e z = rw (← e, ne_eqb _ _ z)

  uneven : entry_refusal c d key 16 16 ≡ refusal.done → (n % 16 ≡ 0 → ⊥) → refusal.block_length ≡ blocks_refusal c d key n room
  unfolding blocks_refusal
  uneven e z = rw (e, ne_eqb _ _ z)

  no_room : entry_refusal c d key 16 16 ≡ refusal.done → n % 16 ≡ 0 → room < n → refusal.no_room ≡ blocks_refusal c d key n room
  unfolding blocks_refusal
  no_room e z h = rw (e, eq-eqb _ _ z, lt-ltb _ _ h)

  all_done : entry_refusal c d key 16 16 ≡ refusal.done → n % 16 ≡ 0 → n ≤ room → refusal.done ≡ blocks_refusal c d key n room
  unfolding blocks_refusal
  all_done e z h = rw (e, eq-eqb _ _ z, le-ltb _ _ h)

module _ (c d : ℕ) (key x o : List ℕ) where
  refused : (r : ℕ) → (r ≡ refusal.done → ⊥) → r ≡ blocks_refusal c d key (length x) (length o) → WorksBlocks c d key x o r o
  unfolding blocks_out
  refused r z e = record { answered = e; left = rw (← e, ne_eqb _ _ z) }

  put : refusal.done ≡ blocks_refusal c d key (length x) (length o) → join (each (worked c d key) (whole x)) ++ drop (length x) o ≡ blocks_out c d key x o
  unfolding blocks_out
  put e = rw (← e)

pub returns-in-Err : goal.returns-in-Err
returns-in-Err c =
    let a = c.args in
    let e = c.number.ensures ∙ c.in-Err.ensures in
    let z : c.number.result ≡ refusal.done → ⊥ = λ d. not_done c.in-Err.no (sym c.number.ensures ∙ d) in
    refused a.cipher a.direction a.key.now a.input.now a.output.now _ z (unlike _ _ _ _ _ _ e z)

pub returns-then-input-ne0 : goal.returns-then-input-ne0
returns-then-input-ne0 c =
    let a = c.args in
    let e = sym c.in_default.ensures in
    refused a.cipher a.direction a.key.now a.input.now a.output.now _ (λ z. not_done Refusal.BlockLength (sym c.number-then-input-ne0.ensures ∙ z)) (c.number-then-input-ne0.ensures ∙ uneven _ _ _ _ _ e c.if-input-ne0.true)

pub returns-then-output-input : goal.returns-then-output-input
returns-then-output-input c =
    let a = c.args in
    let e = sym c.in_default.ensures in
    refused a.cipher a.direction a.key.now a.input.now a.output.now _ (λ z. not_done Refusal.NoRoom (sym c.number-then-output-input.ensures ∙ z)) (c.number-then-output-input.ensures ∙ no_room _ _ _ _ _ e c.if-input-ne0.false c.if-output-input.true)

pub round_keys-keys-requires : goal.round_keys-keys-requires
round_keys-keys-requires c = (accepted_call _ _ _ _ _ (sym c.in_default.ensures)).legal

pub run-requires : goal.run-requires
run-requires c =
    let e = c.if-input-ne0.false in
    let r = c.if-output-input.false in
    ((accepted_call _ _ _ _ _ (sym c.in_default.ensures)).legal, omega arith, omega arith)

pub returns : goal.returns
unfolding worked schedule enciphered deciphered
returns c =
    let a = c.args in
    let x = a.input.now in
    let o = a.output.now in
    let e = sym c.in_default.ensures in
    let fine = all_done a.cipher a.direction a.key.now (length x) (length o) e c.if-input-ne0.false c.if-output-input.false in
    let w : Way = record { cipher = a.cipher; length = length a.key.now; direction = a.direction } in
    let long : 16 * (length x / 16) ≡ length x = let z = c.if-input-ne0.false in omega arith in
    record {
      answered = fine;
      left =
          c.run.ensures
          ∙ ap (λ (k : List ℕ). join (each (F w k) (whole x)) ++ drop (16 * (length x / 16)) o) c.round_keys-keys.ensures
          ∙ ap (λ (n : ℕ). join (each (worked a.cipher a.direction a.key.now) (whole x)) ++ drop n o) long
          ∙ put a.cipher a.direction a.key.now x o fine;
    }
