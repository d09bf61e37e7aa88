-- No refusal has the number of a done call, and no two answers have one number.
use mathlib.Core.Path.{◌≡◌, refl, sym, ap, ◌∙◌}
use mathlib.Core.List.{List, [], ◌∷◌}
use Prim.Native.Nat.{ℕ, ◌-◌}
use lib.Dec.{eqb}
use lib.ListN.{get_or}
use native.Mathlib.Omega.{arith}
use mathlib.Core.Bool.{true, false, true≢false}
use Rattle.std.specs.Prelude.{Result, Ok, Err, is_ok, is_err}
use Rattle.laws.specs.Choice.{choose}
use Rattle.refusals.specs.Refusals as refusal
use Rattle.refusals.specs.Numbers.{number_of, number}
use Rattle.refusals.specs.declared.Refusal.{Refusal}
use Rattle.refusals.specs.declared.Refusal.TheVariants as R

pub not_done : (r : Refusal) → number_of r ≡ refusal.done → ⊥
not_done R.UnknownCipher e = omega arith
not_done R.KeyLength e = omega arith
not_done R.FirstBlockLength e = omega arith
not_done R.Direction e = omega arith
not_done R.BadSchedule e = omega arith
not_done R.BadState e = omega arith
not_done R.Closed e = omega arith
not_done R.OverLimit e = omega arith
not_done R.NoRoom e = omega arith
not_done R.BytesHeld e = omega arith
not_done R.BlockLength e = omega arith
not_done R.BadCard e = omega arith
not_done R.BadRecord e = omega arith
not_done R.NoSlot e = omega arith
not_done R.BadStreamRecord e = omega arith
not_done R.OtherSchedule e = omega arith
not_done R.BlankKey e = omega arith

-- as a test of the code tells them apart
pub done : (a : Result Unit Refusal) → is_ok a ≡ true → number a ≡ refusal.done
done (Ok x) e = refl
done (Err r) e = absurd (true≢false (sym e))

pub refused : (a : Result Unit Refusal) → is_ok a ≡ false → number a ≡ refusal.done → ⊥
refused (Ok x) e = absurd (true≢false e)
refused (Err r) e = not_done r

pub erred : (a : Result Unit Refusal) → is_err a ≡ true → number a ≡ refusal.done → ⊥
erred (Ok x) e = absurd (true≢false (sym e))
erred (Err r) e = not_done r

pub not_erred : (a : Result Unit Refusal) → is_err a ≡ false → number a ≡ refusal.done
not_erred (Ok x) e = refl
not_erred (Err r) e = absurd (true≢false e)

pub refused_answer : {a : Result Unit Refusal} {r : Refusal} → a ≡ Err r → number a ≡ refusal.done → ⊥
refused_answer {a} {r} e z = not_done r (sym (ap number e) ∙ z)

-- the answer of a number
in_order : List Refusal
in_order = R.UnknownCipher ∷ R.KeyLength ∷ R.FirstBlockLength ∷ R.Direction ∷ R.BadSchedule ∷ R.BadState ∷ R.Closed ∷ R.OverLimit ∷ R.NoRoom ∷ R.BytesHeld ∷ R.BlockLength ∷ R.BadCard ∷ R.BadRecord ∷ R.NoSlot ∷ R.BadStreamRecord ∷ R.OtherSchedule ∷ R.BlankKey ∷ []

answer_of : ℕ → Result Unit Refusal
answer_of n = choose (eqb n 0) (Ok tt) (Err (get_or in_order (n - 1) R.UnknownCipher))

answer_back : (a : Result Unit Refusal) → answer_of (number a) ≡ a
unfolding answer_of in_order
answer_back (Ok x) = refl
answer_back (Err R.UnknownCipher) = refl
answer_back (Err R.KeyLength) = refl
answer_back (Err R.FirstBlockLength) = refl
answer_back (Err R.Direction) = refl
answer_back (Err R.BadSchedule) = refl
answer_back (Err R.BadState) = refl
answer_back (Err R.Closed) = refl
answer_back (Err R.OverLimit) = refl
answer_back (Err R.NoRoom) = refl
answer_back (Err R.BytesHeld) = refl
answer_back (Err R.BlockLength) = refl
answer_back (Err R.BadCard) = refl
answer_back (Err R.BadRecord) = refl
answer_back (Err R.NoSlot) = refl
answer_back (Err R.BadStreamRecord) = refl
answer_back (Err R.OtherSchedule) = refl
answer_back (Err R.BlankKey) = refl

pub one_number : (a b : Result Unit Refusal) → number a ≡ number b → a ≡ b
one_number a b e = sym (answer_back a) ∙ ap answer_of e ∙ answer_back b
