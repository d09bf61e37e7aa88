use mathlib.Core.Path.{◌∙◌}
use Rattle.cipher.proofs.Answers.{set_up_looked_at}
use Rattle.cipher.proofs.set_up_refusal.Goals as goal

pub returns : goal.returns
returns c =
    c.first.ensures
    ∙ rw (c.is_cipher-unknown.ensures, c.is_length-length.ensures, c.is_legal_and_blank-blank.ensures)
    (set_up_looked_at _ _)
