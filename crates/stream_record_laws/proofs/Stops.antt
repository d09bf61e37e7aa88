-- Demand 3 across any number of stops, of every stream that start hands out, for every cipher: a lay-down changes nothing, and what is taken up is what was laid
-- down, so the steps are the calls among them.
use mathlib.Core.Path.{◌≡◌, refl, sym, ap, ◌∙◌, subst}
use mathlib.Core.Bool.{Bool, true, false}
use mathlib.Core.Logic.{◌⊎◌, inl, inr}
use mathlib.Core.List.{List, [], ◌∷◌, ◌++◌}
use Prim.Native.Nat.{ℕ}
use native.Mathlib.Omega.{arith}
use lib.Dec.{eqb}
use lib.ListN.{length, take}
use borrow.Author.Tests.{ne_eqb, eqb-true, eqb-false}
use Rattle.laws.specs.Choice.{choose}
use Rattle.runs.proofs.Fill.{zeros-replicate}
use Rattle.refusals.specs.Refusals as refusal
use Rattle.cbc.specs.Cbc.{answer}
use Rattle.cipher.specs.Schedule.{enciphered, deciphered}
use Rattle.cipher.specs.declared.Schedule.{Schedule}
use Rattle.stream.specs.State.{fresh, bad_state}
use Rattle.stream.specs.Calls.{start, closed_stream, finish_refusal, finished_as, finish}
use Rattle.stream.specs.declared.Stream.{Stream}
use Rattle.stream.proofs.Outcomes.{good_open}
use Rattle.demands.specs.Demand3.{Call, next, accepted, written, after, accepted_bytes, written_bytes}
use Rattle.demands.specs.Demand3.Call.{piece, end}
use Rattle.demands.proofs.Demand1.{refused_changes_nothing}
use Rattle.demands.proofs.AnyCut.{accepted_start, demand3}
use Rattle.stream_layout.specs.Layout.{record_length}
use Rattle.stream_record.specs.Record.{record_of}
use Rattle.stream_record.specs.Calls.{lay_down_refusal, lay_down_out, take_up}
use Rattle.stream_record_laws.specs.Stops.{Step, Caller, has, answered, taken, step, behind, all_accepted, all_written, calls, AcrossStops}
use Rattle.stream_record_laws.specs.Stops.Step.{call, lay, take_up_kept, miss}
use Rattle.stream_record_laws.proofs.TakenUp.{Shaped, taken_up_again, front_is_record, taken_up_whole}
use Rattle.stream_record_laws.proofs.Shape.{next_shaped, next_good}

-- ---- what the caller has is sound: a good stream, and its record or none
record Sound (c : Caller) : Type 0 where
  good : bad_state c.stream ≡ false
  shaped : Shaped c.stream
  kept : (c.kept ≡ []) ⊎ (c.kept ≡ record_of c.stream)

-- a call that is refused leaves the stream
finish_stands : (s : Stream) → eqb (finish s).answer refusal.done ≡ false → (finish s).next ≡ s
unfolding finish
finish_stands s = go (eqb (finish_refusal s) refusal.done)
  where
    go : (t : Bool) → eqb (choose t (finished_as refusal.done (closed_stream s)) (finished_as (finish_refusal s) s)).answer refusal.done ≡ false
        → (choose t (finished_as refusal.done (closed_stream s)) (finished_as (finish_refusal s) s)).next ≡ s
    go true h = absurd (eqb-false refusal.done refusal.done h refl)
    go false h = refl

stands : (s : Stream) (k : Call) → eqb (answered s k) refusal.done ≡ false → next s k ≡ s
stands s (piece p o) h = (refused_changes_nothing s p o (eqb-false _ _ h)).0
stands s end h = finish_stands s h

call_kept : (s : Stream) (r : List ℕ) (k : Call) → (r ≡ []) ⊎ (r ≡ record_of s)
    → (choose (eqb (answered s k) refusal.done) [] r ≡ []) ⊎ (choose (eqb (answered s k) refusal.done) [] r ≡ record_of (next s k))
call_kept s r k h = go (eqb (answered s k) refusal.done) refl h
  where
    go : (t : Bool) → eqb (answered s k) refusal.done ≡ t → (r ≡ []) ⊎ (r ≡ record_of s)
        → (choose t [] r ≡ []) ⊎ (choose t [] r ≡ record_of (next s k))
    go true e h = inl refl
    go false e (inl h) = inl h
    go false e (inr h) = inr (h ∙ ap record_of (sym (stands s k e)))

sound_call : (c : Caller) (k : Call) → Sound c → Sound (step c (call k))
sound_call c k h =
    record {
      good = next_good c.stream h.good h.shaped k;
      shaped = next_shaped c.stream h.good h.shaped k;
      kept = call_kept c.stream c.kept k h.kept;
    }

lay-kept : (c : Caller) (o : List ℕ) → Sound c → ((step c (lay o)).kept ≡ []) ⊎ ((step c (lay o)).kept ≡ record_of c.stream)
lay-kept c o h = go (eqb (lay_down_refusal c.stream (length o)) refusal.done) refl
  where
    front : List ℕ
    front = take record_length (lay_down_out c.stream o)

    go : (t : Bool) → eqb (lay_down_refusal c.stream (length o)) refusal.done ≡ t
        → (choose t front c.kept ≡ []) ⊎ (choose t front c.kept ≡ record_of c.stream)
    go true e = inr (front_is_record c.stream h.shaped h.good o (eqb-true _ _ e))
    go false e = h.kept

sound_lay : (c : Caller) (o : List ℕ) → Sound c → Sound (step c (lay o))
sound_lay c o h = record { good = h.good; shaped = h.shaped; kept = lay-kept c o h }

-- ---- a take-up gives the caller the stream that he has
not_taken : (s : Stream) (k : Schedule) (r : List ℕ) → ((take_up k r).answer ≡ refusal.done → ⊥) → taken s (take_up k r) ≡ s
not_taken s k r z = ap (λ (t : Bool). choose t (take_up k r).stream s) (ne_eqb (take_up k r).answer refusal.done z)

-- no bytes are no record
none : (k : Schedule) → (take_up k []).answer ≡ refusal.done → ⊥
none k e = let l = taken_up_whole k [] e in omega arith

same_taken : (c : Caller) → Sound c → taken c.stream (take_up c.stream.schedule c.kept) ≡ c.stream
same_taken c h = go h.kept
  where
    s : Stream
    s = c.stream

    go : (c.kept ≡ []) ⊎ (c.kept ≡ record_of s) → taken s (take_up s.schedule c.kept) ≡ s
    go (inl e) = ap (λ (r : List ℕ). taken s (take_up s.schedule r)) e ∙ not_taken s s.schedule [] (none s.schedule)
    go (inr e) = ap (λ (r : List ℕ). taken s (take_up s.schedule r)) e ∙ ap (taken s) (taken_up_again s h.shaped h.good)

-- ---- any steps: of a caller c they are the calls among them, on a stream s
record Same (c : Caller) (s : Stream) (xs : List Step) : Type 0 where
  state : (behind c xs).stream ≡ after s (calls xs)
  taken_in : all_accepted c xs ≡ accepted_bytes s (calls xs)
  given_out : all_written c xs ≡ written_bytes s (calls xs)

-- where the caller has the same stream again
standing : (c : Caller) (u : Stream) (xs : List Step) → u ≡ c.stream → Sound c → (Sound (has u c.kept) → Same (has u c.kept) u xs)
    → Same (has u c.kept) c.stream xs
standing c u xs e h more =
    subst (λ (s : Stream). Same (has u c.kept) s xs) e (more (subst (λ (s : Stream). Sound (has s c.kept)) (sym e) h))

same : (xs : List Step) (c : Caller) → Sound c → Same c c.stream xs
same [] c h = record { state = refl; taken_in = refl; given_out = refl }
same (call k ∷ xs) c h =
    let r = same xs (step c (call k)) (sound_call c k h) in
    record {
      state = r.state;
      taken_in = ap (λ (l : List ℕ). accepted c.stream k ++ l) r.taken_in;
      given_out = ap (λ (l : List ℕ). written c.stream k ++ l) r.given_out;
    }
same (lay o ∷ xs) c h =
    let r = same xs (step c (lay o)) (sound_lay c o h) in
    record { state = r.state; taken_in = r.taken_in; given_out = r.given_out }
same (take_up_kept ∷ xs) c h =
    let r = standing c (step c take_up_kept).stream xs (same_taken c h) h (same xs (step c take_up_kept)) in
    record { state = r.state; taken_in = r.taken_in; given_out = r.given_out }
same (miss k b z ∷ xs) c h =
    let r = standing c (step c (miss k b z)).stream xs (not_taken c.stream k b z) h (same xs (step c (miss k b z))) in
    record { state = r.state; taken_in = r.taken_in; given_out = r.given_out }

-- ---- of a stream that start hands out
module _ (s : Schedule) (d : ℕ) (first : List ℕ) (begun : (start s d first).answer ≡ refusal.done) where
  sound_start : Sound (has (start s d first).stream [])
  sound_start =
      let a = accepted_start s d first begun in
      subst (λ (u : Stream). Sound (has u [])) (sym a.stream)
      (record {
        good = sym (good_open (fresh s d first) a.schedule a.direction (omega arith) (zeros-replicate 15) refl);
        shaped = record { chain = a.block; held = refl };
        kept = inl refl;
      })

  pub across_stops : (xs : List Step) → AcrossStops (start s d first).stream xs
  across_stops xs =
      let u : Stream = (start s d first).stream in
      let r = same xs (has u []) sound_start in
      let c = demand3 s d first begun (calls xs) in
      record {
        state = r.state;
        taken_in = r.taken_in;
        given_out = r.given_out;
        cut = c;
        bytes = r.given_out ∙ c.bytes ∙ ap (answer (enciphered u.schedule) (deciphered u.schedule) u.direction u.chain) (sym r.taken_in);
      }
