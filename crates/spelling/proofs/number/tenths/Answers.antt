use Rattle.std.proofs.Common.{◌≡◌, None, sym, ◌∙◌, arith}
use Rattle.spelling.specs.Number.{whole, front, last_but_one, last}
use Rattle.spelling.proofs.Digits.{digit_at_most}
use Rattle.spelling.proofs.Answers.{tenths_no_front, tenths_no_digit, tenths_pointed, whole_small, tenths-whole, tenths_not_whole, not_pointed}
use borrow.Author.Tests.{ltb-true}
use Rattle.spelling.proofs.number.tenths.Goals as goal
use Rattle.spelling.proofs.number.tenths.Goals.{in_default-via-then-text-lt2, in_default-via-else-text-lt2+in_default-1}

pub returns-in_err-whole-in-46 : goal.returns-in_err-whole-in-46
returns-in_err-whole-in-46 c =
    let text = c.args.text.now in
    let p : last_but_one text ≡ 46 = omega arith in
    let e : None ≡ whole (front text) = sym c.in_err-whole-in-46.was ∙ c.whole.ensures in
    c.from_residual.ensures ∙ tenths_no_front text (omega arith) p e

pub returns-in_err-whole-in_default : goal.returns-in_err-whole-in_default
returns-in_err-whole-in_default c =
    let text = c.args.text.now in
    c.from_residual-in_err-whole-in_default.ensures
    ∙ tenths_not_whole text (sym c.in_err-whole-in_default.was ∙ c.whole-in_default.ensures)
    (not_pointed text (λ a b. elim c.in_default.branch [ in_default-via-then-text-lt2 w ↦ omega (arith, ltb-true) | in_default-via-else-text-lt2+in_default-1 w ↦ omega arith ]))

pub returns-in_err-digit-in-46 : goal.returns-in_err-digit-in-46
returns-in_err-digit-in-46 c =
    let text = c.args.text.now in
    let p : last_but_one text ≡ 46 = omega arith in
    c.from_residual-in_err-digit-in-46.ensures
    ∙ tenths_no_digit text (omega arith) p (sym c.in_ok-whole-in-46.was ∙ c.whole.ensures) (sym c.in_err-digit-in-46.was ∙ c.digit.ensures)

pub returns-in_ok-digit-in-46 : goal.returns-in_ok-digit-in-46
returns-in_ok-digit-in-46 c =
    let text = c.args.text.now in
    let p : last_but_one text ≡ 46 = omega arith in
    tenths_pointed text (omega arith) p (sym c.in_ok-whole-in-46.was ∙ c.whole.ensures) (sym c.in_ok-digit-in-46.was ∙ c.digit.ensures)

pub returns-in_ok-whole-in_default : goal.returns-in_ok-whole-in_default
returns-in_ok-whole-in_default c = tenths-whole c.args.text.now (sym c.in_ok-whole-in_default.was ∙ c.whole-in_default.ensures)

pub overflow_mul-result : goal.overflow_mul-result
overflow_mul-result c = let s = whole_small (front c.args.text.now) (sym c.in_ok-whole-in-46.was ∙ c.whole.ensures) in omega arith

pub overflow_add-result : goal.overflow_add-result
overflow_add-result c =
    let s = whole_small (front c.args.text.now) (sym c.in_ok-whole-in-46.was ∙ c.whole.ensures) in
    let d = digit_at_most (last c.args.text.now) (sym c.in_ok-digit-in-46.was ∙ c.digit.ensures) in
    omega arith

pub overflow_mul-result-in_default : goal.overflow_mul-result-in_default
overflow_mul-result-in_default c = let s = whole_small c.args.text.now (sym c.in_ok-whole-in_default.was ∙ c.whole-in_default.ensures) in omega arith
