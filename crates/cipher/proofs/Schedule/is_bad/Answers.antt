use mathlib.Core.Path.{sym, ◌∙◌}
use Rattle.cipher.proofs.Answers.{bad_number, bad_length, bad_rest}
use Rattle.cipher.proofs.Schedule.is_bad.Goals as goal

pub returns-then-not-is_cipher : goal.returns-then-not-is_cipher
returns-then-not-is_cipher c = bad_number _ (sym c.is_cipher.ensures ∙ c.if-not-is_cipher.true)

pub returns-then-not-is_length : goal.returns-then-not-is_length
returns-then-not-is_length c = bad_length _ (sym c.is_cipher.ensures ∙ c.if-not-is_cipher.false) (sym c.is_length.ensures ∙ c.if-not-is_length.true)

pub rest_is_zero-requires : goal.rest_is_zero-requires
rest_is_zero-requires c = sym c.is_length.ensures ∙ c.if-not-is_length.false

pub returns : goal.returns
returns c =
    bad_rest _ (sym c.is_cipher.ensures ∙ c.if-not-is_cipher.false)
    (sym c.is_length.ensures ∙ c.if-not-is_length.false) _ c.rest_is_zero.ensures
