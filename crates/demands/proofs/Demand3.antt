-- Demand 3 holds of every stream as start returns it, for any list of calls. From a fresh stream only two kinds of state are reached: that of the accepted bytes a,
-- and the same closed, where a has whole blocks only.
use mathlib.Core.Path.{◌≡◌, refl, sym, ap, ◌∙◌, subst}
use mathlib.Core.Bool.{Bool, true, false, not, true≢false}
use mathlib.Core.List.{List, [], ◌∷◌, ◌++◌, append_assoc, append-nil}
use Prim.Native.Nat.{ℕ, zero, suc, ◌+◌, ◌-◌, ◌*◌, ◌/◌, ◌%◌, ◌≤◌}
use native.Mathlib.Omega.{arith}
use lib.Dec.{eqb}
use lib.ListN.{length, take, drop, replicate, length-append}
use lib.Seq.{take_at, drop_at}
use borrow.Author.Tests.{eq-eqb, ne_eqb, le-ltb, eqb-true}
use Rattle.laws.specs.Choice.{choose}
use Rattle.runs.specs.Zeros.{zeros}
use Rattle.runs.proofs.Fill.{zeros-replicate}
use Rattle.refusals.specs.Refusals as refusal
use Rattle.cipher_numbers.specs.Ciphers.{is_direction}
use Rattle.cipher.specs.Schedule.{bad, enciphered, deciphered}
use Rattle.cipher.specs.declared.Schedule.{Schedule}
use Rattle.cbc.specs.Cbc.{chain, join, whole, rest, completed, answer}
use Rattle.cbc.proofs.Parts.{out_none, chain_none}
use Rattle.cbc.proofs.Cut.{rest-length, cut_rest, cut_answer, cut_chain}
use Rattle.cbc.proofs.Sized.{Sized, out_long}
use Rattle.pieces.specs.Pieces.{limit, held15}
use Rattle.stream.specs.State.{stream_of, at_hand, bad_state}
use Rattle.stream.specs.Calls.{piece_refusal, fed, fed_as, fed_bytes, feed, feed_out, finish_refusal, finished_as, finish}
use Rattle.demands.specs.Demand3.{Call, next, accepted, written, after, accepted_bytes, written_bytes, CutAnywhere}
use Rattle.demands.specs.Demand3.Call.{piece, end}
use Rattle.stream.specs.declared.Stream.{Stream}
use Rattle.stream.specs.Numbered.{Fed}
use Rattle.stream.specs.Numbered.{Finished}
use Rattle.stream.proofs.Outcomes as outcomes
use Rattle.stream.proofs.Outcomes.{good_open, closed-held}
use Rattle.demands.proofs.Answers.{piece_closed, finish_closed}

module _ (s : Schedule) (d : ℕ) (c : List ℕ) where
  abbrev E : List ℕ → List ℕ
  E = enciphered s

  abbrev D : List ℕ → List ℕ
  D = deciphered s

  -- the state of the accepted bytes a
  abbrev pub at : Bool → List ℕ → Stream
  at b a = stream_of s d (length a) (chain E d c (whole a)) (held15 (rest a)) b

  hand : (b : Bool) (a p : List ℕ) → at_hand (at b a) p ≡ rest a ++ p
  hand b a p = ap (λ (l : List ℕ). l ++ p) (take_at (rest a) (replicate (15 - length (rest a)) 0) (length a % 16) (rest-length a))

  fed-at : (b : Bool) (a p : List ℕ) → fed (at b a) p ≡ at b (a ++ p)
  unfolding fed
  fed-at b a p = rw (hand b a p, cut_chain E D d c a p, cut_rest a p, length-append)

  bytes_at : (b : Bool) (a p : List ℕ) → answer E D d c a ++ fed_bytes (at b a) p ≡ answer E D d c (a ++ p)
  unfolding fed_bytes
  bytes_at b a p = rw (hand b a p, cut_answer E D d c a p)

  -- ---- what the calls give on such a state
  piece_ok : (b : Bool) (a p o : List ℕ) → piece_refusal (at b a) (length p) (length o) ≡ 0
      → feed (at b a) p (length o) ≡ fed_as refusal.done (16 * completed (length a) (length p)) (at b (a ++ p))
  unfolding feed
  piece_ok b a p o e = rw (eq-eqb _ _ e, fed-at b a p)

  piece_no : (b : Bool) (a p o : List ℕ) (k : ℕ) → piece_refusal (at b a) (length p) (length o) ≡ suc k
      → feed (at b a) p (length o) ≡ fed_as (suc k) 0 (at b a)
  unfolding feed
  piece_no b a p o k e =
      let n : piece_refusal (at b a) (length p) (length o) ≡ 0 → ⊥ = λ z. omega arith in
      rw (ne_eqb _ _ n, e)

  end_ok : (b : Bool) (a : List ℕ) → finish_refusal (at b a) ≡ 0 → finish (at b a) ≡ finished_as refusal.done (at true a)
  unfolding finish
  end_ok b a e = rw (eq-eqb _ _ e)

  end_no : (b : Bool) (a : List ℕ) (k : ℕ) → finish_refusal (at b a) ≡ suc k → finish (at b a) ≡ finished_as (suc k) (at b a)
  unfolding finish
  end_no b a k e =
      let n : finish_refusal (at b a) ≡ 0 → ⊥ = λ z. omega arith in
      rw (ne_eqb _ _ n, e)

  -- ---- the state is good
  held_zeros : (a : List ℕ) → zeros (drop (length a % 16) (held15 (rest a))) ≡ true
  held_zeros a =
      ap zeros (drop_at (rest a) (replicate (15 - length (rest a)) 0) (length a % 16) (rest-length a)) ∙ zeros-replicate (15 - length (rest a))

  module _ (hs : bad s ≡ false) (hd : is_direction d ≡ true) where
    good_at : (b : Bool) (a : List ℕ) → length a ≤ limit → (b ≡ true → length a % 16 ≡ 0) → bad_state (at b a) ≡ false
    good_at false a l w = sym (good_open (at false a) hs hd l (held_zeros a) refl)
    good_at true a l w = sym (closed-held (at true a) hs hd l (held_zeros a) refl) ∙ rw (eq-eqb _ _ (w refl))

    -- a closed stream refuses, and stands
    closed_piece : (a p o : List ℕ) → length a ≤ limit → length a % 16 ≡ 0 → feed (at true a) p (length o) ≡ fed_as refusal.closed 0 (at true a)
    closed_piece a p o l w =
        sym (outcomes.piece_refused (at true a) p o _ (piece_closed (at true a) (good_at true a l (λ e. w)) (length p) (length o) refl) (λ z. omega arith)).0

    closed_end : (a : List ℕ) → length a ≤ limit → length a % 16 ≡ 0 → finish (at true a) ≡ finished_as refusal.closed (at true a)
    closed_end a l w = sym (outcomes.finish_refused (at true a) _ (finish_closed (at true a) (good_at true a l (λ e. w)) refl) (λ z. omega arith))

    first_ok : (a o : List ℕ) → length a ≤ limit → 16 * (length a / 16) ≤ length o → piece_refusal (at false []) (length a) (length o) ≡ 0
    unfolding piece_refusal
    first_ok a o l r =
        let g = good_at false [] (omega arith) (λ e. absurd (true≢false (sym e))) in
        rw (g, le-ltb limit (0 + length a) (omega arith), le-ltb (length o) (16 * completed 0 (length a)) (omega arith))

    -- what an accepted finish tells
    end_tells : (b : Bool) (a : List ℕ) → finish_refusal (at b a) ≡ 0 → length a % 16 ≡ 0
    unfolding finish_refusal
    end_tells b a = at_bad (bad_state (at b a)) b (eqb (length a % 16) 0) refl
      where
        at_bad : (t u v : Bool) → eqb (length a % 16) 0 ≡ v
            → refusal.finish_order t u (not v) ≡ refusal.done → length a % 16 ≡ 0
        at_bad true u v e h = absurd (omega arith)
        at_bad false true v e h = absurd (omega arith)
        at_bad false false true e h = eqb-true _ _ e
        at_bad false false false e h = absurd (omega arith)

    module _ (sized : Sized E) where
      fed_length : (b : Bool) (a p : List ℕ) → length (fed_bytes (at b a) p) ≡ 16 * completed (length a) (length p)
      unfolding fed_bytes
      fed_length b a p = out_long E D sized d (chain E d c (whole a)) (completed (length a) (length p)) (at_hand (at b a) p)

      ok_out : (b : Bool) (a p o : List ℕ) → piece_refusal (at b a) (length p) (length o) ≡ 0
          → take (16 * completed (length a) (length p)) (feed_out (at b a) p o) ≡ fed_bytes (at b a) p
      unfolding feed_out
      ok_out b a p o e =
          rw (eq-eqb _ _ e)
          (take_at (fed_bytes (at b a) p) (drop (16 * completed (length a) (length p)) o) (16 * completed (length a) (length p)) (fed_length b a p))

      -- ---- any calls
      abbrev B : List ℕ → List ℕ
      B a = answer E D d c a

      -- what is so of the last state, the accepted and the written bytes of calls on the state of a
      record Reached (a : List ℕ) (last : Stream) (taken given : List ℕ) : Type 0 where
        state : last ≡ at last.closed (a ++ taken)
        bytes : B a ++ given ≡ B (a ++ taken)
        small : length (a ++ taken) ≤ limit
        whole_when_closed : last.closed ≡ true → length (a ++ taken) % 16 ≡ 0

      abbrev Reaches : List ℕ → Stream → List Call → Type 0
      Reaches a u cs = Reached a (after u cs) (accepted_bytes u cs) (written_bytes u cs)

      -- the first call leads from u to v, accepts x and writes y
      via : (a : List ℕ) (u v : Stream) (k : Call) (cs : List Call) (x y : List ℕ) → next u k ≡ v → accepted u k ≡ x → written u k ≡ y
          → Reached a (after v cs) (x ++ accepted_bytes v cs) (y ++ written_bytes v cs) → Reaches a u (k ∷ cs)
      via a u v k cs x y en ex ey h =
          subst (λ (f : Stream). Reached a (after f cs) (accepted u k ++ accepted_bytes f cs) (written u k ++ written_bytes f cs)) (sym en)
          (subst (λ (l : List ℕ). Reached a (after v cs) (l ++ accepted_bytes v cs) (written u k ++ written_bytes v cs)) (sym ex)
          (subst (λ (l : List ℕ). Reached a (after v cs) (x ++ accepted_bytes v cs) (l ++ written_bytes v cs)) (sym ey) h))

      reach_piece : (b : Bool) (a p o : List ℕ) (cs : List Call)
          → (b ≡ false → length (a ++ p) ≤ limit → Reaches (a ++ p) (at b (a ++ p)) cs) → Reaches a (at b a) cs → Reaches a (at b a) (piece p o ∷ cs)
      reach_piece b a p o cs more same = go (piece_refusal (at b a) (length p) (length o)) refl
        where
          go : (k : ℕ) → piece_refusal (at b a) (length p) (length o) ≡ k → Reaches a (at b a) (piece p o ∷ cs)
          go zero e =
              let f = piece_ok b a p o e in
              let t = outcomes.accepted_piece (at b a) (length p) (length o) e in
              let m = more t.unclosed (rw length-append t.within) in
              let v : Stream = at b (a ++ p) in
              let A = accepted_bytes v cs in
              let W = written_bytes v cs in
              via a (at b a) v (piece p o) cs p (fed_bytes (at b a) p) (ap (λ (r : Fed). r.next) f)
              (ap (λ (r : Fed). choose (eqb r.answer 0) p []) f)
              (ap (λ (r : Fed). take r.written (feed_out (at b a) p o)) f ∙ ok_out b a p o e)
              (record {
                state = m.state ∙ ap (at (after v cs).closed) (append_assoc a p A);
                bytes = sym (append_assoc (B a) (fed_bytes (at b a) p) W) ∙ ap (λ (x : List ℕ). x ++ W) (bytes_at b a p) ∙ m.bytes ∙ ap B (append_assoc a p A);
                small = rw (← append_assoc a p A) m.small;
                whole_when_closed = rw (← append_assoc a p A) m.whole_when_closed;
              })
          go (suc k) e =
              let f = piece_no b a p o k e in
              let n : suc k ≡ 0 → ⊥ = λ z. omega arith in
              via a (at b a) (at b a) (piece p o) cs [] [] (ap (λ (r : Fed). r.next) f)
              (ap (λ (r : Fed). choose (eqb r.answer 0) p []) f ∙ ap (λ (t : Bool). choose t p []) (ne_eqb (suc k) 0 n))
              (ap (λ (r : Fed). take r.written (feed_out (at b a) p o)) f) same

      reach_end : (b : Bool) (a : List ℕ) (cs : List Call)
          → (length a % 16 ≡ 0 → Reaches a (at true a) cs) → Reaches a (at b a) cs → Reaches a (at b a) (end ∷ cs)
      reach_end b a cs shut same = go (finish_refusal (at b a)) refl
        where
          go : (k : ℕ) → finish_refusal (at b a) ≡ k → Reaches a (at b a) (end ∷ cs)
          go zero e = via a (at b a) (at true a) end cs [] [] (ap (λ (r : Finished). r.next) (end_ok b a e)) refl refl (shut (end_tells b a e))
          go (suc k) e = via a (at b a) (at b a) end cs [] [] (ap (λ (r : Finished). r.next) (end_no b a k e)) refl refl same

      reach : (cs : List Call) (b : Bool) (a : List ℕ) → length a ≤ limit → (b ≡ true → length a % 16 ≡ 0) → Reaches a (at b a) cs
      reach [] b a l w =
          record { state = rw append-nil; bytes = rw (append-nil, append-nil); small = rw append-nil l; whole_when_closed = rw append-nil w }
      reach (piece p o ∷ cs) b a l w =
          reach_piece b a p o cs (λ e g. reach cs b (a ++ p) g (λ z. absurd (true≢false (sym z ∙ e)))) (reach cs b a l w)
      reach (end ∷ cs) b a l w = reach_end b a cs (λ e. reach cs true a l (λ z. e)) (reach cs b a l w)

      nothing : B [] ≡ []
      unfolding answer
      nothing = ap join (out_none E D d c)

      pub demand3_at : (cs : List Call) → CutAnywhere (at false []) cs
      demand3_at cs =
          let A = accepted_bytes (at false []) cs in
          let r = reach cs false [] (omega arith) (λ z. absurd (true≢false (sym z))) in
          let z : B [] ≡ [] = nothing in
          let c' : chain E d c (whole []) ≡ c = chain_none E D d c in
          let w : written_bytes (at false []) cs ≡ B A = ap (λ (l : List ℕ). l ++ written_bytes (at false []) cs) (sym z) ∙ r.bytes in
          let m : completed 0 (length A) ≡ length A / 16 = omega arith in
          record {
            bytes = w ∙ ap (λ (x : List ℕ). answer E D d x A) (sym c');
            once = λ u o h.
                let q : at false A ≡ after (at false []) cs = ap (λ (t : Bool). at t A) (sym u) ∙ sym r.state in
                piece_ok false [] A o (first_ok A o r.small h) ∙ (λ i. fed_as refusal.done (16 * m i) (q i));
            same = λ o h. rw (← m) (ok_out false [] A o (first_ok A o r.small h) ∙ ap (λ (l : List ℕ). l ++ fed_bytes (at false []) A) (sym z) ∙ bytes_at false [] A ∙ sym w);
            finished = λ u. rw (r.state, u) (λ p o. closed_piece A p o r.small (r.whole_when_closed u), closed_end A r.small (r.whole_when_closed u));
          }
