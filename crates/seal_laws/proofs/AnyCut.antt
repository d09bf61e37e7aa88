-- Cut anywhere, of every seal that start hands out, for any list of calls and all ciphers. From a fresh seal only two kinds of state are reached: that of the
-- accepted bytes a, and the same closed.
use mathlib.Core.Path.{◌≡◌, refl, sym, ap, ◌∙◌, subst}
use mathlib.Core.Bool.{Bool, true, false}
use mathlib.Core.Logic.{◌⊎◌, inl, inr}
use mathlib.Core.List.{List, [], ◌∷◌, ◌++◌, append_assoc, append-nil}
use Prim.Native.Nat.{ℕ, zero, suc, ◌+◌, ◌-◌, ◌≤◌}
use native.Mathlib.Omega.{arith}
use lib.Dec.{eqb}
use lib.ListN.{length, drop, replicate, length-append}
use lib.Seq.{take_at, drop_at}
use borrow.Author.Tests.{ne_eqb}
use Rattle.laws.specs.Choice.{choose}
use Rattle.runs.specs.Zeros.{zeros}
use Rattle.runs.specs.Same.{same}
use Rattle.runs.proofs.Fill.{zeros-replicate}
use Rattle.refusals.specs.Refusals as refusal
use Rattle.refusals.proofs.Clear.{seal_start_clear}
use Rattle.cbc.specs.Cbc.{blocks}
use Rattle.cmac.specs.Cmac.{zero_block, earlier, complete, final, final_length, K1, K2, last, chained, cmac}
use Rattle.cmac.proofs.Cut.{earlier_is, final-length, cut_final, cut_chained, chained_append}
use Rattle.pieces.specs.Pieces.{limit, held_in}
use Rattle.cipher.specs.Schedule.{bad, enciphered}
use Rattle.cipher.specs.declared.Schedule.{Schedule}
use Rattle.seal.specs.State.{seal_of, fresh, at_hand, bad_state}
use Rattle.seal.specs.Calls.{start_refusal, start, piece_refusal, fed, fed_as, feed, sealed, closed_seal, write_refusal, written_as, write, write_out, check_refusal, checked_as, check}
use Rattle.seal.specs.declared.Seal.{Seal}
use Rattle.seal.specs.Numbered.{Started}
use Rattle.seal.specs.Numbered.{Fed}
use Rattle.seal.proofs.Outcomes.{accepted_piece, start_refused, start-done}
use Rattle.seal_laws.specs.AnyCut.{Call, next, accepted, after, accepted_bytes, CutAnywhere}
use Rattle.seal_laws.specs.AnyCut.Call.{piece, writing, checking}
use Rattle.seal_laws.proofs.Answers.{piece_done, piece_not, piece_accepted, piece_closed, write-closed, write_open, check-closed, check_open}
use Rattle.seal_laws.proofs.States.{good_by}

module _ (s : Schedule) where
  abbrev E : List ℕ → List ℕ
  E = enciphered s

  -- the state of the accepted bytes a
  abbrev pub at : Bool → List ℕ → Seal
  at b a = seal_of s (length a) (chained E zero_block (complete a)) (held_in 16 (final a)) b

  hand : (b : Bool) (a p : List ℕ) → at_hand (at b a) p ≡ final a ++ p
  hand b a p = ap (λ (l : List ℕ). l ++ p) (take_at (final a) (replicate (16 - length (final a)) 0) (final_length (length a)) (final-length a))

  fed-at : (b : Bool) (a p : List ℕ) → fed (at b a) p ≡ at b (a ++ p)
  unfolding fed
  fed-at b a p = rw (hand b a p, cut_chained E zero_block a p, cut_final a p, length-append)

  -- the seal of such a state is the CMAC of the bytes
  pub seal_at : (b : Bool) (a : List ℕ) → sealed (at b a) ≡ cmac E a
  unfolding sealed cmac
  seal_at b a =
      ap (λ (l : List ℕ). chained E (chained E zero_block (complete a)) (last (K1 E) (K2 E) l ∷ []))
      (take_at (final a) (replicate (16 - length (final a)) 0) (final_length (length a)) (final-length a))
      ∙ sym (chained_append E zero_block (complete a) (last (K1 E) (K2 E) (final a) ∷ []))

  -- ---- such a state is good
  held_zeros : (a : List ℕ) → zeros (drop (final_length (length a)) (held_in 16 (final a))) ≡ true
  held_zeros a =
      ap zeros (drop_at (final a) (replicate (16 - length (final a)) 0) (final_length (length a)) (final-length a)) ∙ zeros-replicate (16 - length (final a))

  chain_zeros : (a : List ℕ) → length a ≤ 16 → zeros (chained E zero_block (complete a)) ≡ true
  chain_zeros a h =
      let e = earlier_is (length a) in
      let none : earlier (length a) ≡ 0 = omega arith in
      ap (λ (k : ℕ). zeros (chained E zero_block (blocks k a))) none

  module _ (hs : bad s ≡ false) where
    pub good_at : (b : Bool) (a : List ℕ) → length a ≤ limit → bad_state (at b a) ≡ false
    good_at b a l = good_by (at b a) (record { schedule = hs; count = l; held = held_zeros a; chain = chain_zeros a })

    -- ---- what the calls give on such a state
    piece_ok : (b : Bool) (a p : List ℕ) → piece_refusal (at b a) (length p) ≡ 0 → feed (at b a) p ≡ fed_as refusal.done (at b (a ++ p))
    piece_ok b a p e = piece_done (at b a) p e ∙ ap (fed_as refusal.done) (fed-at b a p)

    -- while it is open: a piece that the limit lets in, and a check
    pub piece_at : (a p : List ℕ) → length (a ++ p) ≤ limit → feed (at false a) p ≡ fed_as refusal.done (at false (a ++ p))
    piece_at a p l =
        let n : length a + length p ≤ limit = rw (← length-append) l in
        piece_ok false a p (piece_accepted (at false a) (good_at false a (omega arith)) (length p) refl n)

    pub check-at : (a x : List ℕ) → length a ≤ limit → check (at false a) x ≡ checked_as refusal.done (same x (cmac E a)) (at true a)
    check-at a x l =
        check_open (at false a) (good_at false a l) x refl ∙ ap (λ (t : List ℕ). checked_as refusal.done (same x t) (at true a)) (seal_at false a)

    -- writing and a check leave the state as it was, or closed
    writing-next : (b : Bool) (a o : List ℕ) → (next (at b a) (writing o) ≡ at b a) ⊎ (next (at b a) (writing o) ≡ at true a)
    unfolding write
    writing-next b a o = go (eqb (write_refusal (at b a) (length o)) refusal.done)
      where
        after_it : Bool → Seal
        after_it t = (choose t (written_as refusal.done (at true a)) (written_as (write_refusal (at b a) (length o)) (at b a))).next

        go : (t : Bool) → (after_it t ≡ at b a) ⊎ (after_it t ≡ at true a)
        go true = inr refl
        go false = inl refl

    checking-next : (b : Bool) (a g : List ℕ) → (next (at b a) (checking g) ≡ at b a) ⊎ (next (at b a) (checking g) ≡ at true a)
    unfolding check
    checking-next b a g = go (eqb (check_refusal (at b a)) refusal.done)
      where
        after_it : Bool → Seal
        after_it t = (choose t (checked_as refusal.done (same g (sealed (at b a))) (at true a)) (checked_as (check_refusal (at b a)) false (at b a))).next

        go : (t : Bool) → (after_it t ≡ at b a) ⊎ (after_it t ≡ at true a)
        go true = inr refl
        go false = inl refl

    -- ---- any calls
    -- what is so of the last state and the accepted bytes of calls on the state of a
    record Reached (a : List ℕ) (end : Seal) (taken : List ℕ) : Type 0 where
      state : end ≡ at end.closed (a ++ taken)
      small : length (a ++ taken) ≤ limit

    abbrev Reaches : List ℕ → Seal → List Call → Type 0
    Reaches a u cs = Reached a (after u cs) (accepted_bytes u cs)

    -- the first call leads from u to v and accepts x
    via : (a : List ℕ) (u v : Seal) (k : Call) (cs : List Call) (x : List ℕ) → next u k ≡ v → accepted u k ≡ x
        → Reached a (after v cs) (x ++ accepted_bytes v cs) → Reaches a u (k ∷ cs)
    via a u v k cs x en ex h =
        subst (λ (f : Seal). Reached a (after f cs) (accepted u k ++ accepted_bytes f cs)) (sym en)
        (subst (λ (l : List ℕ). Reached a (after v cs) (l ++ accepted_bytes v cs)) (sym ex) h)

    reach_piece : (b : Bool) (a p : List ℕ) (cs : List Call)
        → (length (a ++ p) ≤ limit → Reaches (a ++ p) (at b (a ++ p)) cs) → Reaches a (at b a) cs → Reaches a (at b a) (piece p ∷ cs)
    reach_piece b a p cs more as_it_was = go (piece_refusal (at b a) (length p)) refl
      where
        taken : Fed → List ℕ
        taken r = choose (eqb r.answer refusal.done) p []

        go : (k : ℕ) → piece_refusal (at b a) (length p) ≡ k → Reaches a (at b a) (piece p ∷ cs)
        go zero e =
            let f = piece_ok b a p e in
            let m = more (rw length-append (accepted_piece (at b a) (length p) e).within) in
            let v : Seal = at b (a ++ p) in
            let A = accepted_bytes v cs in
            via a (at b a) v (piece p) cs p (ap (λ (r : Fed). r.next) f) (ap taken f)
            (record { state = m.state ∙ ap (at (after v cs).closed) (append_assoc a p A); small = rw (← append_assoc a p A) m.small })
        go (suc k) e =
            let f = piece_not (at b a) p k e in
            let n : suc k ≡ 0 → ⊥ = λ z. omega arith in
            via a (at b a) (at b a) (piece p) cs [] (ap (λ (r : Fed). r.next) f)
            (ap taken f ∙ ap (λ (t : Bool). choose t p []) (ne_eqb (suc k) 0 n)) as_it_was

    -- a call that accepts nothing, and leaves the state as it was or closed
    reach_end : (b : Bool) (a : List ℕ) (k : Call) (cs : List Call) → accepted (at b a) k ≡ [] → (next (at b a) k ≡ at b a) ⊎ (next (at b a) k ≡ at true a)
        → Reaches a (at b a) cs → Reaches a (at true a) cs → Reaches a (at b a) (k ∷ cs)
    reach_end b a k cs none (inl e) as_it_was shut = via a (at b a) (at b a) k cs [] e none as_it_was
    reach_end b a k cs none (inr e) as_it_was shut = via a (at b a) (at true a) k cs [] e none shut

    reach : (cs : List Call) (b : Bool) (a : List ℕ) → length a ≤ limit → Reaches a (at b a) cs
    reach [] b a l = record { state = rw append-nil; small = rw append-nil l }
    reach (piece p ∷ cs) b a l = reach_piece b a p cs (λ g. reach cs b (a ++ p) g) (reach cs b a l)
    reach (writing o ∷ cs) b a l = reach_end b a (writing o) cs refl (writing-next b a o) (reach cs b a l) (reach cs true a l)
    reach (checking g ∷ cs) b a l = reach_end b a (checking g) cs refl (checking-next b a g) (reach cs b a l) (reach cs true a l)

    cut_anywhere_fresh : (cs : List Call) → CutAnywhere (fresh s) cs
    unfolding earlier
    cut_anywhere_fresh cs =
        let A = accepted_bytes (fresh s) cs in
        let r = reach cs false [] (omega arith) in
        let g : (b : Bool) → bad_state (at b A) ≡ false = λ b. good_at b A r.small in
        let q : (b : Bool) → (after (fresh s) cs).closed ≡ b → at b A ≡ after (fresh s) cs = λ b u. ap (λ (t : Bool). at t A) (sym u) ∙ sym r.state in
        record {
          once = λ u. piece_at [] A r.small ∙ ap (fed_as refusal.done) (q false u);
          written = λ u o h.
              subst (λ (v : Seal). (write v (length o) ≡ written_as refusal.done (closed_seal v)) × (write_out v o ≡ cmac E A ++ drop 16 o)) (q false u)
              (let w = write_open (at false A) (g false) o refl h in (w.0, w.1 ∙ ap (λ (l : List ℕ). l ++ drop 16 o) (seal_at false A)));
          checked = λ u x.
              subst (λ (v : Seal). check v x ≡ checked_as refusal.done (same x (cmac E A)) (closed_seal v)) (q false u) (check-at A x r.small);
          ended = λ u.
              subst (λ (v : Seal). ((p : List ℕ) → feed v p ≡ fed_as refusal.closed v)
              × ((o : List ℕ) → (write v (length o) ≡ written_as refusal.closed v) × (write_out v o ≡ o))
              × ((x : List ℕ) → check v x ≡ checked_as refusal.closed false v)) (q true u)
              (λ p. piece_closed (at true A) (g true) p refl, λ o. write-closed (at true A) (g true) o refl, λ x. check-closed (at true A) (g true) x refl);
        }

  -- ---- of every accepted start
  -- what it tells
  pub record AcceptedStart : Type 0 where
    pub schedule : bad s ≡ false
    pub seal : (start s).seal ≡ fresh s

  pub accepted_start : (start s).answer ≡ refusal.done → AcceptedStart
  unfolding start_refusal
  accepted_start = go (start_refusal s) refl
    where
      go : (k : ℕ) → start_refusal s ≡ k → (start s).answer ≡ refusal.done → AcceptedStart
      go zero e h = record { schedule = (seal_start_clear (bad s) e).0; seal = sym (ap (λ (r : Started). r.seal) (start-done s e)) }
      go (suc k) e h =
          let z : suc k ≡ (start s).answer = ap (λ (r : Started). r.answer) (start_refused s (suc k) (sym e) (λ n. omega arith)) in
          absurd (omega arith)

  pub cut_anywhere : (start s).answer ≡ refusal.done → (cs : List Call) → CutAnywhere (start s).seal cs
  cut_anywhere h cs = let a = accepted_start h in subst (λ (u : Seal). CutAnywhere u cs) (sym a.seal) (cut_anywhere_fresh a.schedule cs)
