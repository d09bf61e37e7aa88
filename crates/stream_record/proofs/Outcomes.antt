-- The answers of the calls, one law for each outcome, in the order in which the code comes to it.
use mathlib.Core.Path.{◌≡◌, refl, ap, ◌∙◌}
use mathlib.Core.Bool.{Bool, true, false, not, true≢false}
use mathlib.Core.List.{List, ◌++◌}
use Prim.Native.Nat.{ℕ, ◌≤◌, ◌<◌}
use lib.Dec.{ltb, eqb}
use lib.ListN.{length, drop, get_or}
use borrow.Author.Tests.{eq-eqb, ne_eqb, lt-ltb, le-ltb, eqb-true, ltb-false}
use Rattle.laws.specs.Choice.{choose}
use Rattle.refusals.specs.Refusals as refusal
use Rattle.refusals.proofs.Clear.{lay_down_clear, take_up_clear}
use Rattle.cipher.specs.Schedule.{bad}
use Rattle.cipher.specs.declared.Schedule.{Schedule}
use Rattle.stream_layout.specs.Layout.{record_length, laid, spelt}
use Rattle.stream_layout.specs.declared.Fields.{Fields}
use Rattle.stream.specs.State.{bad_state, zero_stream}
use Rattle.stream.specs.Calls.{started_as}
use Rattle.stream.specs.declared.Stream.{Stream}
use Rattle.stream_record.specs.Record.{fields_of, record_of, stream_from, keyless, bad_fields, bad_record, differs}
use Rattle.stream_record.specs.Calls.{lay_down_refusal, lay_down_out, take_up_refusal, take_up}

-- ---- bad fields
module _ (f : Fields) where
  pub bad_closed : 1 < f.closed → true ≡ bad_fields f
  unfolding bad_fields
  bad_closed h = rw (lt-ltb _ _ h)

  module _ (h : f.closed ≤ 1) where
    pub bad_last : (get_or f.held 15 0 ≡ 0 → ⊥) → true ≡ bad_fields f
    unfolding bad_fields
    bad_last z = rw (le-ltb _ _ h, ne_eqb _ _ z)

    pub by_state : get_or f.held 15 0 ≡ 0 → bad_state (stream_from (keyless f) f) ≡ bad_fields f
    unfolding bad_fields
    by_state z = rw (le-ltb _ _ h, eq-eqb _ _ z)

-- ---- another schedule
module _ (s : Schedule) (f : Fields) where
  pub another_cipher : (f.cipher ≡ s.cipher → ⊥) → true ≡ differs s f
  unfolding differs
  another_cipher z = rw (ne_eqb _ _ z)

  pub by_length_lem : f.cipher ≡ s.cipher → not (eqb f.key_length s.key_length) ≡ differs s f
  unfolding differs
  by_length_lem e = rw (eq-eqb _ _ e)

-- ---- laying down
module _ (s : Stream) (o : List ℕ) where
  pub fits : lay_down_refusal s (length o) ≡ refusal.done → record_length ≤ length o
  unfolding lay_down_refusal
  fits e = ltb-false _ _ (lay_down_clear (bad_state s) (ltb (length o) record_length) e).1.0

  pub not_laid : (lay_down_refusal s (length o) ≡ refusal.done → ⊥) → o ≡ lay_down_out s o
  unfolding lay_down_out
  not_laid z = rw (ne_eqb _ _ z)

  pub laid_down : lay_down_refusal s (length o) ≡ refusal.done → (f : Fields) (o' : List ℕ) → f ≡ fields_of s → o' ≡ laid f ++ drop record_length o → o' ≡ lay_down_out s o
  unfolding lay_down_out record_of
  laid_down ok f o' e w = w ∙ ap (λ (x : Fields). laid x ++ drop record_length o) e ∙ rw (eq-eqb _ _ ok)

-- ---- taking up
module _ (s : Schedule) (r : List ℕ) where
  pub wrong_length : (length r ≡ record_length → ⊥) → refusal.take_up_order (bad s) true false ≡ take_up_refusal s r
  unfolding take_up_refusal bad_record
  wrong_length z = rw (ne_eqb _ _ z)

  pub by_fields : length r ≡ record_length → refusal.take_up_order (bad s) (bad_fields (spelt r)) (differs s (spelt r)) ≡ take_up_refusal s r
  unfolding take_up_refusal bad_record
  by_fields e = rw (eq-eqb _ _ e)

  -- what an accepted record tells
  pub record Accepted : Type 0 where
    pub schedule : bad s ≡ false
    pub whole : length r ≡ record_length
    pub fields : bad_fields (spelt r) ≡ false
    pub same : differs s (spelt r) ≡ false

  pub accepted : take_up_refusal s r ≡ refusal.done → Accepted
  unfolding take_up_refusal bad_record
  accepted e =
      let c = take_up_clear (bad s) (bad_record r) (differs s (spelt r)) e in
      at (eqb (length r) record_length) refl c.0 c.1.0 c.1.1.0
    where
      at : (t : Bool) → eqb (length r) record_length ≡ t → bad s ≡ false → choose (not t) true (bad_fields (spelt r)) ≡ false → differs s (spelt r) ≡ false
          → Accepted
      at true l h f d = record { schedule = h; whole = eqb-true _ _ l; fields = f; same = d }
      at false l h f d = absurd (true≢false f)

  pub not_taken : (k : ℕ) → k ≡ take_up_refusal s r → (k ≡ refusal.done → ⊥) → started_as k zero_stream ≡ take_up s r
  unfolding take_up
  not_taken k e z = rw (← e, ne_eqb _ _ z)

  pub taken_up : take_up_refusal s r ≡ refusal.done → started_as refusal.done (stream_from s (spelt r)) ≡ take_up s r
  unfolding take_up
  taken_up ok = rw (eq-eqb _ _ ok)
