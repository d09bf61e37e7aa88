-- What the calls answer and return, by their refusals: done, or refused with the state as it was. And what a state that is not bad answers.
use mathlib.Core.Path.{◌≡◌, refl, sym, ap, ◌∙◌}
use mathlib.Core.Bool.{Bool, true, false, true≢false}
use mathlib.Core.List.{List, ◌++◌}
use Prim.Native.Nat.{ℕ, zero, suc, ◌+◌, ◌≤◌}
use native.Mathlib.Omega.{arith}
use lib.ListN.{length, drop}
use borrow.Author.Tests.{eq-eqb, ne_eqb, le-ltb}
use Rattle.runs.specs.Same.{same}
use Rattle.runs.proofs.Same.{same_self, same_is}
use Rattle.refusals.specs.Refusals as refusal
use Rattle.pieces.specs.Pieces.{limit}
use Rattle.seal.specs.State.{bad_state}
use Rattle.seal.specs.Calls.{piece_refusal, fed, fed_as, feed, sealed, closed_seal, write_refusal, written_as, write, write_out, check_refusal, checked_as, check}
use Rattle.seal.specs.declared.Seal.{Seal}
use Rattle.seal.specs.Numbered.{Checked}
use Rattle.seal.specs.Numbered.{Fed}
use Rattle.seal.proofs.Outcomes.{check_refused, check_done}

-- ---- a piece
module _ (s : Seal) (p : List ℕ) where
  pub piece_done : piece_refusal s (length p) ≡ refusal.done → feed s p ≡ fed_as refusal.done (fed s p)
  unfolding feed
  piece_done e = rw (eq-eqb _ _ e)

  pub piece_not : (k : ℕ) → piece_refusal s (length p) ≡ suc k → feed s p ≡ fed_as (suc k) s
  unfolding feed
  piece_not k e =
      let n : piece_refusal s (length p) ≡ 0 → ⊥ = λ z. omega arith in
      rw (ne_eqb _ _ n, e)

  -- a refusal changes nothing
  pub refused_piece : ((feed s p).answer ≡ refusal.done → ⊥) → (feed s p).next ≡ s
  refused_piece z = go (piece_refusal s (length p)) refl
    where
      go : (k : ℕ) → piece_refusal s (length p) ≡ k → (feed s p).next ≡ s
      go zero e = absurd (z (ap (λ (r : Fed). r.answer) (piece_done e)))
      go (suc k) e = ap (λ (r : Fed). r.next) (piece_not k e)

-- ---- on a state that is not bad
module _ (s : Seal) (g : bad_state s ≡ false) where
  pub piece_closed : (p : List ℕ) → s.closed ≡ true → feed s p ≡ fed_as refusal.closed s
  unfolding feed piece_refusal
  piece_closed p b = rw (g, b)

  pub piece_accepted : (n : ℕ) → s.closed ≡ false → s.count + n ≤ limit → piece_refusal s n ≡ refusal.done
  unfolding piece_refusal
  piece_accepted n b l = rw (g, b, le-ltb limit (s.count + n) l)

  pub write-closed : (o : List ℕ) → s.closed ≡ true → (write s (length o) ≡ written_as refusal.closed s) × (write_out s o ≡ o)
  unfolding write write_out write_refusal
  write-closed o b = rw (g, b) (refl, refl)

  pub write_open : (o : List ℕ) → s.closed ≡ false → 16 ≤ length o
      → (write s (length o) ≡ written_as refusal.done (closed_seal s)) × (write_out s o ≡ sealed s ++ drop 16 o)
  unfolding write write_out write_refusal
  write_open o b h = rw (g, b, le-ltb _ _ h) (refl, refl)

  pub check-closed : (x : List ℕ) → s.closed ≡ true → check s x ≡ checked_as refusal.closed false s
  unfolding check check_refusal
  check-closed x b = rw (g, b)

  pub check_open : (x : List ℕ) → s.closed ≡ false → check s x ≡ checked_as refusal.done (same x (sealed s)) (closed_seal s)
  unfolding check check_refusal
  check_open x b = rw (g, b)

-- ---- a check
module _ (s : Seal) (x : List ℕ) where
  -- done, or refused with a no
  by_refusal : (k : ℕ) → check_refusal s ≡ k → (k ≡ 0 → ⊥) → check s x ≡ checked_as k false s
  by_refusal k e z = sym (check_refused s x k (sym e) z)

  answered : check_refusal s ≡ 0 → check s x ≡ checked_as refusal.done (same x (sealed s)) (closed_seal s)
  answered e = sym (check_done s x e (sealed s) (same x (sealed s)) refl refl)

  -- a yes means that it was done and that the given bytes are the seal, and these get one
  pub yes_means : (check s x).yes ≡ true → ((check s x).answer ≡ refusal.done) × (x ≡ sealed s)
  yes_means = go (check_refusal s) refl
    where
      go : (k : ℕ) → check_refusal s ≡ k → (check s x).yes ≡ true → ((check s x).answer ≡ refusal.done) × (x ≡ sealed s)
      go zero e y =
          let f = answered e in
          (ap (λ (r : Checked). r.answer) f, same_is x (sealed s) (sym (ap (λ (r : Checked). r.yes) f) ∙ y))
      go (suc k) e y = absurd (true≢false (sym y ∙ ap (λ (r : Checked). r.yes) (by_refusal (suc k) e (λ z. omega arith))))

  pub seal_gets_yes : (check s x).answer ≡ refusal.done → x ≡ sealed s → (check s x).yes ≡ true
  seal_gets_yes a h = go (check_refusal s) refl
    where
      go : (k : ℕ) → check_refusal s ≡ k → (check s x).yes ≡ true
      go zero e = ap (λ (r : Checked). r.yes) (answered e) ∙ ap (λ (y : List ℕ). same y (sealed s)) h ∙ same_self (sealed s)
      go (suc k) e =
          let n : suc k ≡ 0 = sym (ap (λ (r : Checked). r.answer) (by_refusal (suc k) e (λ z. omega arith))) ∙ a in
          absurd (omega arith)

  -- a refused check says no
  pub refused_no : ((check s x).answer ≡ refusal.done → ⊥) → (check s x).yes ≡ false
  refused_no z = go (check s x).yes refl
    where
      go : (t : Bool) → (check s x).yes ≡ t → (check s x).yes ≡ false
      go true e = absurd (z (yes_means e).0)
      go false e = e
