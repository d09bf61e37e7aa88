-- Two pairs, and a slot by its pair.
use mathlib.Core.Path.{◌≡◌, refl, sym, ap, ap₂, ◌∙◌}
use mathlib.Core.Bool.{Bool, true, false, not, ◌&&◌, and-false, true≢false}
use mathlib.Core.List.{List}
use Prim.Native.Nat.{ℕ}
use lib.Dec.{eqb}
use borrow.Author.Tests.{eq-eqb, eqb-true, not-true}
use Rattle.laws.proofs.Test.{and_left, and_right, fails}
use Rattle.card_slots.specs.Slot.{empty, pair_of}
use Rattle.card_slots.specs.Card.{same_pair}
use Rattle.card_slots.specs.Find.{named}
use Rattle.card_slots.proofs.Rules.{named_filled}

-- ---- two pairs
pub same_pair_lem : (p q : ℕ × ℕ) → same_pair p q ≡ true → p ≡ q
same_pair_lem p q e =
    let a = eqb-true p.0 q.0 (and_left (eqb p.0 q.0) (eqb p.1 q.1) e) in
    let b = eqb-true p.1 q.1 (and_right (eqb p.0 q.0) (eqb p.1 q.1) e) in
    λ k. (a k, b k)

pub pair_same : (p q : ℕ × ℕ) → p ≡ q → same_pair p q ≡ true
pair_same p q e = ap₂ ◌&&◌ (eq-eqb p.0 q.0 (ap (λ (x : ℕ × ℕ). x.0) e)) (eq-eqb p.1 q.1 (ap (λ (x : ℕ × ℕ). x.1) e))

pub other_pair : (p q : ℕ × ℕ) → (p ≡ q → ⊥) → same_pair p q ≡ false
other_pair p q n = fails (same_pair p q) (λ e. n (same_pair_lem p q e))

pub pair_sym : (p q : ℕ × ℕ) → same_pair p q ≡ false → same_pair q p ≡ false
pair_sym p q e = other_pair q p (λ z. true≢false (sym (pair_same p q (sym z)) ∙ e))

-- ---- a slot by its pair
module _ (p : ℕ × ℕ) (s : List ℕ) where
  pub named_pair : named p s ≡ true → pair_of s ≡ p
  unfolding named
  named_pair e = sym (same_pair_lem p (pair_of s) (and_left (same_pair p (pair_of s)) (not (empty s)) e))

  pub named_not_empty : named p s ≡ true → empty s ≡ false
  unfolding named
  named_not_empty e = not-true (empty s) (and_right (same_pair p (pair_of s)) (not (empty s)) e)

  pub named_other : (pair_of s ≡ p → ⊥) → named p s ≡ false
  unfolding named
  named_other n = ap (λ (b : Bool). b && not (empty s)) (other_pair p (pair_of s) (λ e. n (sym e)))

  pub named-empty : empty s ≡ true → named p s ≡ false
  unfolding named
  named-empty e = rw e (and-false (same_pair p (pair_of s)))

pub named_self : (s : List ℕ) → empty s ≡ false → named (pair_of s) s ≡ true
named_self s e = sym (named_filled (pair_of s) s refl refl) ∙ ap not e
