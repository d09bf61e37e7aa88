-- A record that is legal but for one field: this field alone decides.
use mathlib.Core.Path.{◌≡◌, sym, ap, ◌∙◌}
use mathlib.Core.Bool.{Bool, true, false, and-true, and-false}
use lib.Dec.{leb}
use mathlib.Core.List.{List}
use Prim.Native.Nat.{ℕ, ◌+◌, ◌≤◌, ◌<◌}
use native.Mathlib.Omega.{arith}
use lib.ListN.{length, get_or, get_or-replicate}
use borrow.Author.Tests.{le-leb, lt-leb}
use Rattle.laws.proofs.Test.{fails}
use Rattle.runs.proofs.All.{all_are}
use Rattle.card_slots.specs.Slot.{empty, keeps_rules}
use Rattle.card_fields.specs.declared.Fields.{Fields}
use Rattle.card_fields.specs.Fields.{Laid}
use Rattle.card_rules.specs.declared.Field.{Field}
use Rattle.card_rules.specs.declared.Field.TheVariants.{Recipe, Segment, Target, Rate, Hold}
use Rattle.card_rules.specs.Rules.{is_kind, may_be}
use Rattle.card_rules.specs.code.LegalElse.{all_may_be, JudgedLaid, LegalElse}
use Rattle.card_rules.proofs.FieldByField.{kept_field_by_field}

-- ---- one number
pub over_two_bytes : (field : Field) (n : ℕ) → 65535 < n → may_be field n ≡ false
unfolding may_be
over_two_bytes Recipe n h = rw (lt-leb n 65535 h) (and-false (leb 1 n))
over_two_bytes Segment n h = rw (lt-leb n 32 (omega arith)) (and-false (leb 1 n))
over_two_bytes Target n h = lt-leb n 13500 (omega arith)
over_two_bytes Rate n h = lt-leb n 65535 h
over_two_bytes Hold n h = lt-leb n 65535 h

-- ---- the other fields may be what they are
pub kind_decides : (f : Fields) → may_be Recipe f.recipe ≡ true → may_be Segment f.segment ≡ true → may_be Target f.target ≡ true
    → all_may_be f ≡ is_kind f.kind
unfolding all_may_be
kind_decides f a b d = rw (a, b, d) (and-true (is_kind f.kind))

module _ (f : Fields) (n : ℕ) (climb : f.kind ≡ 1) where
  pub recipe_decides : f.recipe ≡ n → may_be Segment f.segment ≡ true → may_be Target f.target ≡ true → LegalElse Recipe n f
  unfolding all_may_be
  recipe_decides r b d = record { climb = climb; decided = rw (b, climb, d, r) (simp and-true) }

  pub segment_decides : may_be Segment f.segment ≡ may_be Segment n → may_be Recipe f.recipe ≡ true → may_be Target f.target ≡ true → LegalElse Segment n f
  unfolding all_may_be
  segment_decides s a d = record { climb = climb; decided = rw (a, climb, d, s) (simp and-true) }

  pub target_decides : f.target ≡ n → may_be Recipe f.recipe ≡ true → may_be Segment f.segment ≡ true → LegalElse Target n f
  unfolding all_may_be
  target_decides t a b = record { climb = climb; decided = rw (a, b, climb, t) }

  -- a rate and a hold of two bytes always may be
  pub rate_decides : n ≤ 65535 → all_may_be f ≡ true → LegalElse Rate n f
  unfolding may_be
  rate_decides h e = record { climb = climb; decided = e ∙ sym (le-leb n 65535 h) }

  pub hold_decides : n ≤ 65535 → all_may_be f ≡ true → LegalElse Hold n f
  unfolding may_be
  hold_decides h e = record { climb = climb; decided = e ∙ sym (le-leb n 65535 h) }

-- ---- a slot that is laid from fields that are not all zero
module _ {f : Fields} {s : List ℕ} (w : Laid f s) where
  zero_at : empty s ≡ true → (i : ℕ) → i < 16 → get_or s i 0 ≡ 0
  unfolding empty
  zero_at e i h =
      let l = w.sixteen in
      ap (λ (x : List ℕ). get_or x i 0) (all_are 0 s e) ∙ get_or-replicate (length s) i 0 0 (omega arith)

  laid_filled : 0 < f.segment + f.kind → empty s ≡ false
  laid_filled h =
      fails (empty s)
      (λ e.
      let a = zero_at e 2 (omega arith) in
      let b = zero_at e 3 (omega arith) in
      omega (arith, w.has.segment, w.has.kind))

  laid_kept : keeps_rules s ≡ all_may_be f
  unfolding all_may_be
  laid_kept = kept_field_by_field s ∙ rw (w.has.recipe, w.has.segment, w.has.kind, w.has.target, w.nothing_behind) (and-true _)

pub judged_filled : {f : Fields} {r : Bool} → JudgedLaid f r → 0 < f.segment + f.kind → r ≡ all_may_be f
judged_filled w h = w.answered ∙ rw (laid_filled w.laid h, laid_kept w.laid)
