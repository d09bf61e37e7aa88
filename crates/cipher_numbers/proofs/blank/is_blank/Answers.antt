use mathlib.Core.Path.{◌∙◌}
use Rattle.cipher_numbers.proofs.Repeated.{none_blank, by_the_first}
use Rattle.cipher_numbers.proofs.blank.is_blank.Goals as goal

pub returns-then-key-eq0 : goal.returns-then-key-eq0
returns-then-key-eq0 c = none_blank _ c.if-key-eq0.true

pub returns : goal.returns
returns c = c.all_from.ensures ∙ by_the_first _ c.if-key-eq0.false
