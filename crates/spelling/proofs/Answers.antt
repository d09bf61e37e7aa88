-- What a text spells: one law for each outcome.
use mathlib.Core.Path.{◌≡◌, refl, ap, ap₂, ◌∙◌}
use mathlib.Core.Bool.{Bool, true, false, ◌&&◌, and-true, false≢true}
use mathlib.Core.List.{List}
use Prim.Native.Nat.{ℕ, ◌+◌, ◌*◌, ◌-◌, ◌≤◌, ◌<◌}
use native.Mathlib.Omega.{arith}
use lib.Dec.{eqb}
use lib.ListN.{length, length-take}
use borrow.Author.Tests.{eq-eqb, eqb-true}
use Rattle.laws.specs.Choice.{choose}
use Rattle.laws.proofs.Test.{and_left, and_right, fails}
use Rattle.laws.specs.Range.{within}
use Rattle.spelling.specs.Number.{digit, digits, value, number, front, last_but_one, last, pointed, whole, tenths}
use Rattle.std.proofs.Common.{Some, None}
use Rattle.std.proofs.lemmas.Option.{same_Some}
use Rattle.laws.proofs.Range.{outside, not_above, not_below}
use Rattle.spelling.proofs.Digits.{digit_read, digit_missing, digits_small, digits_at}

module _ (text : List ℕ) where
  -- ---- a whole number
  pub whole_too_short_or_long : (1 ≤ length text → length text ≤ 9 → ⊥) → None ≡ whole text
  unfolding whole number
  whole_too_short_or_long out = rw (outside 1 9 (length text) out)

  pub whole_read : {n : ℕ} → Some n ≡ whole text → (number text ≡ true) × (n ≡ value text)
  unfolding whole
  whole_read {n} = go (number text)
    where
      go : (t : Bool) → Some n ≡ choose t (Some (value text)) None → (t ≡ true) × (n ≡ value text)
      go true e = (refl, same_Some n (value text) e)
      go false e = cc

  pub whole_missing : None ≡ whole text → number text ≡ false
  unfolding whole
  whole_missing = go (number text)
    where
      go : (t : Bool) → None ≡ choose t (Some (value text)) None → t ≡ false
      go true e = cc
      go false e = refl

  number_small : number text ≡ true → value text < 1000000000
  unfolding number
  number_small e =
      let long = within 1 9 (length text) in
      digits_small text (not_above 1 9 (length text) (and_left long (digits text) e)) (and_right long (digits text) e)

  pub whole_small : {n : ℕ} → Some n ≡ whole text → n < 1000000000
  whole_small e = let r = whole_read e in let s = number_small r.0 in omega arith

  -- ---- in tenths, without a point
  pub not_pointed : (2 < length text → last_but_one text ≡ 46 → ⊥) → pointed text ≡ false
  unfolding pointed number
  not_pointed n =
      fails (pointed text)
      (λ e.
      let f = number (front text) in
      let point = eqb (last_but_one text) 46 in
      let both = and_left (f && point) (digit (last text)) e in
      let some = not_below 1 9 (length (front text)) (and_left (within 1 9 (length (front text))) (digits (front text)) (and_left f point both)) in
      let l = length-take (length text - 2) text in
      n (omega arith) (eqb-true (last_but_one text) 46 (and_right f point both)))

  pub tenths-whole : {n : ℕ} → Some n ≡ whole text → Some (n * 10) ≡ tenths text
  unfolding tenths
  tenths-whole e = let r = whole_read e in rw r.0 (ap (λ (x : ℕ). Some (x * 10)) r.1)

  pub tenths_not_whole : None ≡ whole text → pointed text ≡ false → None ≡ tenths text
  unfolding tenths
  tenths_not_whole e p = rw (whole_missing e, p)

-- ---- in tenths, with a point
module _ (text : List ℕ) (long : 2 ≤ length text) (p : last_but_one text ≡ 46) where
  not_whole : number text ≡ false
  unfolding number digit
  not_whole =
      fails (number text)
      (λ e.
      let d = digits_at text (length text - 2) (omega arith) (and_right (within 1 9 (length text)) (digits text) e) in false≢true (rw p at d))

  tenths_by_point : tenths text ≡ choose (number (front text) && digit (last text)) (Some (value (front text) * 10 + (last text - 48))) None
  unfolding tenths pointed
  tenths_by_point = rw (not_whole, eq-eqb (last_but_one text) 46 p, and-true (number (front text)))

  pub tenths_no_front : None ≡ whole (front text) → None ≡ tenths text
  tenths_no_front e = rw (tenths_by_point, whole_missing (front text) e)

  module _ {n : ℕ} (e : Some n ≡ whole (front text)) where
    pub tenths_no_digit : None ≡ choose (digit (last text)) (Some (last text - 48)) None → None ≡ tenths text
    tenths_no_digit g = rw (tenths_by_point, (whole_read (front text) e).0, digit_missing (last text) g)

    pub tenths_pointed : {d : ℕ} → Some d ≡ choose (digit (last text)) (Some (last text - 48)) None → Some (n * 10 + d) ≡ tenths text
    tenths_pointed g =
        let w = whole_read (front text) e in
        let r = digit_read (last text) g in
        ap₂ (λ (x y : ℕ). Some (x * 10 + y)) w.1 r.1 ∙ rw (tenths_by_point, w.0, r.0)
