-- What laying down and taking up are to one another: with the same schedule the stream taken up is the one laid down, what is taken up is good, and a record
-- that is taken up is laid down as itself.
use mathlib.Core.Path.{◌≡◌, refl, sym, ap, ap₂, ◌∙◌}
use mathlib.Core.Bool.{Bool, true, false, not, true≢false}
use mathlib.Core.List.{List, [], ◌∷◌, ◌++◌}
use Prim.Native.Nat.{ℕ, zero, suc, ◌+◌, ◌≤◌}
use native.Mathlib.Omega.{arith}
use lib.Dec.{ltb, eqb}
use lib.ListN.{length, take, drop, get_or, length-append, length-drop}
use lib.Seq.{take_at, take_all, take-suc, get_or_at, length-take-le}
use borrow.Author.Tests.{eq-eqb, le-ltb, eqb-true, ltb-false}
use Rattle.laws.specs.Choice.{choose}
use Rattle.laws.proofs.Words.{Words}
use Rattle.runs.specs.Zeros.{zeros}
use Rattle.refusals.specs.Refusals as refusal
use Rattle.cipher_numbers.specs.Ciphers.{number, is_length}
use Rattle.cipher_numbers.proofs.Legal.{legal_cipher, legal_length, legal_number}
use Rattle.cipher.specs.Schedule.{bad, zero_schedule}
use Rattle.cipher.specs.declared.Schedule.{Schedule}
use Rattle.cipher.proofs.Answers.{good_length}
use Rattle.stream.specs.State.{stream_of, bad_state, zero_stream}
use Rattle.stream.specs.Calls.{started_as}
use Rattle.stream.specs.declared.Stream.{Stream}
use Rattle.stream.specs.Numbered.{Started}
use Rattle.stream.proofs.Outcomes.{good, direction_small}
use Rattle.stream_layout.specs.Layout as layout
use Rattle.stream_layout.specs.Layout.{Place, record_length, laid, spelt, at}
use Rattle.stream_layout.specs.declared.Fields.{Fields}
use Rattle.stream_record.specs.Record.{fields_of, record_of, stream_from, keyless, bad_fields, differs}
use Rattle.stream_record.specs.Calls.{lay_down_refusal, lay_down_out, take_up_refusal, take_up}
use Rattle.stream_record.proofs.Outcomes.{by_state, by_length_lem, by_fields, Accepted, accepted, taken_up}
use Rattle.stream_record_laws.proofs.Lossless.{Fit, spelt-laid, laid_long, laid-spelt}

-- what every value of the type has: the arrays' lengths
pub record Shaped (s : Stream) : Type 0 where
  pub chain : length s.chain ≡ 16
  pub held : length s.held ≡ 15

-- ---- a state's schedule counts only by whether it is bad
by_schedule : (k k' : Schedule) (f : Fields) → bad k ≡ bad k' → bad_state (stream_from k f) ≡ bad_state (stream_from k' f)
unfolding bad_state
by_schedule k k' f e = rw e

zeros-drop : (n : ℕ) (l : List ℕ) → zeros l ≡ true → zeros (drop n l) ≡ true
zeros-drop zero l z = z
zeros-drop (suc n) [] z = z
zeros-drop (suc n) (x ∷ l) z = zeros-drop n l (behind (eqb x 0) z)
  where
    behind : (t : Bool) → choose t (zeros l) false ≡ true → zeros l ≡ true
    behind true e = e
    behind false e = absurd (true≢false (sym e))

-- with no round keys a schedule is good, if cipher and length are legal
keyless_good : (f : Fields) → is_length f.cipher f.key_length ≡ true → bad (keyless f) ≡ false
unfolding bad
keyless_good f l =
    rw (
      legal_cipher f.cipher f.key_length l,
      l,
      zeros-drop ((number f.cipher).used f.key_length) zero_schedule.round_keys refl,
    )

-- ---- the stream that its own fields spell
closed_again : (b : Bool) → eqb (choose b 1 0) 1 ≡ b
closed_again true = refl
closed_again false = refl

closed_small : (b : Bool) → choose b 1 0 ≤ 1
closed_small true = omega arith
closed_small false = omega arith

module _ (s : Stream) (h : Shaped s) where
  spelt_again : (k : Schedule) → stream_from k (fields_of s) ≡ stream_of k s.direction s.count s.chain s.held s.closed
  spelt_again k = rw (take_at s.held (0 ∷ []) 15 h.held, closed_again s.closed)

  module _ (g : bad_state s ≡ false) where
    legal : is_length s.schedule.cipher s.schedule.key_length ≡ true
    legal = good_length s.schedule (good s g).schedule

    fit : Fit (fields_of s)
    fit =
        let k = good s g in
        let n = legal_number s.schedule.cipher s.schedule.key_length legal in
        let l = legal_length s.schedule.cipher s.schedule.key_length legal in
        let d = direction_small s.direction k.direction in
        let b = closed_small s.closed in
        let c = k.count in
        record {
          cipher = omega arith;
          key_length_lem = omega arith;
          direction = omega arith;
          closed = omega arith;
          count = omega arith;
          chain = h.chain;
          held = length-append s.held (0 ∷ []) ∙ rw h.held;
        }

    own_fields : bad_fields (fields_of s) ≡ false
    own_fields =
        sym (by_state (fields_of s) (closed_small s.closed) (get_or_at s.held 0 [] 0 15 h.held))
        ∙ by_schedule (keyless (fields_of s)) s.schedule (fields_of s) (keyless_good (fields_of s) legal ∙ sym (good s g).schedule)
        ∙ ap bad_state (spelt_again s.schedule) ∙ g

    own_schedule : differs s.schedule (fields_of s) ≡ false
    own_schedule = sym (by_length_lem s.schedule (fields_of s) refl) ∙ rw (eq-eqb s.schedule.key_length s.schedule.key_length refl)

    own_accepted : take_up_refusal s.schedule (record_of s) ≡ refusal.done
    unfolding record_of
    own_accepted =
        sym (by_fields s.schedule (laid (fields_of s)) (laid_long (fields_of s) fit))
        ∙ rw ((good s g).schedule, spelt-laid (fields_of s) fit, own_fields, own_schedule)

    -- with the same schedule the stream taken up is the one laid down
    pub taken_up_again : take_up s.schedule (record_of s) ≡ started_as refusal.done s
    unfolding record_of
    taken_up_again =
        sym (taken_up s.schedule (laid (fields_of s)) own_accepted)
        ∙ ap (λ (f : Fields). started_as refusal.done (stream_from s.schedule f)) (spelt-laid (fields_of s) fit)
        ∙ ap (started_as refusal.done) (spelt_again s.schedule)

    pub record_long : length (record_of s) ≡ record_length
    unfolding record_of
    record_long = laid_long (fields_of s) fit

    -- and with room for it, its record is what a lay-down writes
    pub room_enough : (o : List ℕ) → record_length ≤ length o → lay_down_refusal s (length o) ≡ refusal.done
    unfolding lay_down_refusal
    room_enough o l = rw (g, le-ltb (length o) record_length l)

    pub front_is_record : (o : List ℕ) → lay_down_refusal s (length o) ≡ refusal.done → take record_length (lay_down_out s o) ≡ record_of s
    unfolding lay_down_out
    front_is_record o ok = rw (eq-eqb _ _ ok) (take_at (record_of s) (drop record_length o) record_length record_long)

-- two good streams with the same record and schedule are one
pub one_stream : (s t : Stream) → Shaped s → Shaped t → bad_state s ≡ false → bad_state t ≡ false → s.schedule ≡ t.schedule → record_of s ≡ record_of t → s ≡ t
one_stream s t hs ht gs gt e r =
    ap (λ (x : Started). x.stream)
    (sym (taken_up_again s hs gs) ∙ ap₂ take_up e r ∙ taken_up_again t ht gt)

-- ---- what the fields of an accepted record are
record GoodFields (f : Fields) : Type 0 where
  closed : f.closed ≤ 1
  last : get_or f.held 15 0 ≡ 0
  state : bad_state (stream_from (keyless f) f) ≡ false

good_fields : (f : Fields) → bad_fields f ≡ false → GoodFields f
unfolding bad_fields
good_fields f = at (ltb 1 f.closed) (eqb (get_or f.held 15 0) 0) refl refl
  where
    at : (t u : Bool) → ltb 1 f.closed ≡ t → eqb (get_or f.held 15 0) 0 ≡ u
        → choose t true (choose (not u) true (bad_state (stream_from (keyless f) f))) ≡ false → GoodFields f
    at true u e l h = absurd (true≢false h)
    at false false e l h = absurd (true≢false h)
    at false true e l h = record { closed = ltb-false _ _ e; last = eqb-true _ _ l; state = h }

record Alike (k : Schedule) (f : Fields) : Type 0 where
  cipher : k.cipher ≡ f.cipher
  key_length_lem : k.key_length ≡ f.key_length

alike : (k : Schedule) (f : Fields) → differs k f ≡ false → Alike k f
unfolding differs
alike k f = at (eqb f.cipher k.cipher) (eqb f.key_length k.key_length) refl refl
  where
    at : (t u : Bool) → eqb f.cipher k.cipher ≡ t → eqb f.key_length k.key_length ≡ u
        → choose (not t) true (not u) ≡ false → Alike k f
    at false u e l h = absurd (true≢false h)
    at true false e l h = absurd (true≢false h)
    at true true e l h = record { cipher = sym (eqb-true _ _ e); key_length_lem = sym (eqb-true _ _ l) }

closed_back : (n : ℕ) → n ≤ 1 → choose (eqb n 1) 1 0 ≡ n
closed_back zero h = refl
closed_back (suc zero) h = refl
closed_back (suc (suc n)) h = absurd (omega arith)

held_back : (h : List ℕ) → length h ≡ 16 → get_or h 15 0 ≡ 0 → take 15 h ++ (0 ∷ []) ≡ h
held_back h l z = ap (λ (x : ℕ). take 15 h ++ (x ∷ [])) (sym z) ∙ sym (take-suc h 15 0 (omega arith)) ∙ take_all 16 h (omega arith)

-- ---- of any record that is taken up
pub answer_is : (k : Schedule) (r : List ℕ) → (take_up k r).answer ≡ take_up_refusal k r
unfolding take_up
answer_is k r = go (eqb (take_up_refusal k r) refusal.done) refl
  where
    go : (t : Bool) → eqb (take_up_refusal k r) refusal.done ≡ t
        → (choose t (started_as refusal.done (stream_from k (spelt r))) (started_as (take_up_refusal k r) zero_stream)).answer ≡ take_up_refusal k r
    go true e = sym (eqb-true _ _ e)
    go false e = refl

module _ (k : Schedule) (r : List ℕ) (done : (take_up k r).answer ≡ refusal.done) where
  told : Accepted k r
  told = accepted k r (sym (answer_is k r) ∙ done)

  stream_is : (take_up k r).stream ≡ stream_from k (spelt r)
  stream_is = ap (λ (x : Started). x.stream) (sym (taken_up k r (sym (answer_is k r) ∙ done)))

  pub taken_up_whole : length r ≡ record_length
  taken_up_whole = told.whole

  -- it is good
  pub taken_up_good : bad_state (take_up k r).stream ≡ false
  taken_up_good =
      let f = good_fields (spelt r) told.fields in
      ap bad_state stream_is
      ∙ by_schedule k (keyless (spelt r)) (spelt r) (told.schedule ∙ sym (good (stream_from (keyless (spelt r)) (spelt r)) f.state).schedule)
      ∙ f.state

  long_at : (p : Place) → p.begins + p.width ≤ record_length → length (at p r) ≡ p.width
  long_at p fits =
      let d = length-drop p.begins r in
      let l = told.whole in
      length-take-le p.width (drop p.begins r) (omega arith)

  pub taken_up_shaped : Shaped (take_up k r).stream
  unfolding spelt
  taken_up_shaped =
      let l = long_at layout.held (omega arith) in
      record {
        chain = ap (λ (s : Stream). length s.chain) stream_is ∙ long_at layout.chain (omega arith);
        held = ap (λ (s : Stream). length s.held) stream_is ∙ length-take-le 15 (at layout.held r) (omega arith);
      }

  fields_again : fields_of (stream_from k (spelt r)) ≡ spelt r
  unfolding spelt
  fields_again =
      let f = good_fields (spelt r) told.fields in
      let a = alike k (spelt r) told.same in
      rw (
        a.cipher,
        a.key_length_lem,
        closed_back (spelt r).closed f.closed,
        held_back (spelt r).held (long_at layout.held (omega arith)) f.last,
      )

  -- and is laid down as the record: `bytes` is what every record has
  pub laid_down_again : Words 8 r → record_of (take_up k r).stream ≡ r
  unfolding record_of
  laid_down_again bytes = ap (λ (s : Stream). laid (fields_of s)) stream_is ∙ ap laid fields_again ∙ laid-spelt r told.whole bytes

-- ---- another key of the same length can't be noticed: under it the same records are taken up, as the same streams but for the schedule
abbrev pub under : Schedule → Stream → Stream
under s t = stream_of s t.direction t.count t.chain t.held t.closed

module _ (k k' : Schedule) (g : bad k ≡ false) (g' : bad k' ≡ false) (c : k.cipher ≡ k'.cipher) (l : k.key_length ≡ k'.key_length) (r : List ℕ) where
  same_refusal : take_up_refusal k r ≡ take_up_refusal k' r
  unfolding take_up_refusal differs
  same_refusal = rw (g, g', c, l)

  pub unnoticed : (take_up k r).answer ≡ (take_up k' r).answer
  unnoticed = answer_is k r ∙ same_refusal ∙ sym (answer_is k' r)

  pub taken_up_under : (take_up k r).answer ≡ refusal.done → (take_up k' r).stream ≡ under k' (take_up k r).stream
  taken_up_under done = stream_is k' r (sym unnoticed ∙ done) ∙ ap (under k') (sym (stream_is k r done))
