-- The rules of one slot, and whether it has a pair: one law for each outcome, in the order in which the code comes to it.
use mathlib.Core.Path.{◌≡◌, refl, sym, ap, ◌∙◌}
use mathlib.Core.Bool.{Bool, true, false, not, ◌&&◌}
use mathlib.Core.List.{List}
use Prim.Native.Nat.{ℕ, ◌≤◌, ◌<◌}
use lib.Dec.{eqb}
use lib.ListN.{length}
use borrow.Author.Tests.{eq-eqb, ne_eqb, eqb-true, le-leb, lt-leb}
use Rattle.laws.specs.Choice.{choose}
use Rattle.laws.proofs.Test.{and_left}
use Rattle.runs.specs.Zeros.{zeros}
use Rattle.laws.specs.Range.{within}
use Rattle.card_slots.specs.Slot.{recipe, segment, kind, target, rest, empty, keeps_rules, legal, illegal, good_record}
use Rattle.card_slots.specs.Find.{named}

-- ---- a slot that isn't empty
pub rule : (low high : ℕ) {n m : ℕ} {w v : Bool} → n ≡ m → w ≡ within low high n → w ≡ v → within low high m ≡ v
rule low high e f g = ap (within low high) (sym e) ∙ sym f ∙ g

pub rules_recipe : (s : List ℕ) → within 1 65535 (recipe s) ≡ false → false ≡ keeps_rules s
unfolding keeps_rules
rules_recipe s a = rw a

module _ (s : List ℕ) (a : within 1 65535 (recipe s) ≡ true) where
  pub rules_segment : within 1 32 (segment s) ≡ false → false ≡ keeps_rules s
  unfolding keeps_rules
  rules_segment b = rw (a, b)

  module _ (b : within 1 32 (segment s) ≡ true) where
    pub rules_kind : within 1 3 (kind s) ≡ false → false ≡ keeps_rules s
    unfolding keeps_rules
    rules_kind c = rw (a, b, c)

    module _ (c : within 1 3 (kind s) ≡ true) where
      pub rules_target : 13500 < target s → false ≡ keeps_rules s
      unfolding keeps_rules
      rules_target d = rw (a, b, c, lt-leb _ _ d)

      pub rules_rest : target s ≤ 13500 → {z : Bool} → z ≡ zeros (rest s) → z ≡ keeps_rules s
      unfolding keeps_rules
      rules_rest d e = rw (a, b, c, le-leb _ _ d) e

-- ---- a slot, empty or not
module _ (s : List ℕ) where
  pub illegal_not : keeps_rules s ≡ true → false ≡ illegal s
  illegal_not e = sym (ap (λ (k : Bool). not (choose (empty s) true k)) e ∙ by_empty (empty s))
    where
      by_empty : (b : Bool) → not (choose b true true) ≡ false
      by_empty true = refl
      by_empty false = refl

  pub illegal_filled : keeps_rules s ≡ false → {f : Bool} → f ≡ not (empty s) → f ≡ illegal s
  illegal_filled e g = g ∙ by_empty (empty s) ∙ ap (λ (k : Bool). not (choose (empty s) true k)) (sym e)
    where
      by_empty : (b : Bool) → not b ≡ not (choose b true false)
      by_empty true = refl
      by_empty false = refl

-- ---- a record
module _ (r : List ℕ) where
  pub record_long : (length r ≡ 16 → ⊥) → false ≡ good_record r
  unfolding good_record
  record_long a = rw (ne_eqb _ _ a)

  pub record_illegal : length r ≡ 16 → legal r ≡ false → false ≡ good_record r
  unfolding good_record
  record_illegal a b = rw (eq-eqb _ _ a, b)

  pub record_legal : length r ≡ 16 → legal r ≡ true → not (empty r) ≡ good_record r
  unfolding good_record
  record_legal a b = rw (eq-eqb _ _ a, b)

  pub record_16 : good_record r ≡ true → length r ≡ 16
  unfolding good_record
  record_16 e = eqb-true (length r) 16 (and_left (eqb (length r) 16) (legal r) (and_left (eqb (length r) 16 && legal r) (not (empty r)) e))

-- ---- a pair
module _ (p : ℕ × ℕ) (s : List ℕ) where
  pub named-recipe : (p.0 ≡ recipe s → ⊥) → false ≡ named p s
  unfolding named
  named-recipe a = rw (ne_eqb _ _ a)

  pub named-segment : p.0 ≡ recipe s → (p.1 ≡ segment s → ⊥) → false ≡ named p s
  unfolding named
  named-segment a b = rw (eq-eqb _ _ a, ne_eqb _ _ b)

  pub named_filled : p.0 ≡ recipe s → p.1 ≡ segment s → not (empty s) ≡ named p s
  unfolding named
  named_filled a b = rw (eq-eqb _ _ a, eq-eqb _ _ b)
