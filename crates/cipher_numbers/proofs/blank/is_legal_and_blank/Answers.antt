use mathlib.Core.Path.{sym, ◌∙◌}
use Rattle.cipher_numbers.proofs.blank.is_legal_and_blank.Goals as goal

pub returns-then-not-is_length : goal.returns-then-not-is_length
returns-then-not-is_length c = rw (sym c.is_length.ensures ∙ c.if-not-is_length.true)

pub returns : goal.returns
returns c = c.is_blank.ensures ∙ rw (sym c.is_length.ensures ∙ c.if-not-is_length.false)
