use mathlib.Core.Path.{◌∙◌}
use Rattle.entry.proofs.Outcomes.{looked_at}
use Rattle.entry.proofs.refusal.Goals as goal

pub returns : goal.returns
returns c =
    c.first.ensures
    ∙ rw (
      c.is_cipher-unknown.ensures,
      c.is_length-length.ensures,
      c.is_legal_and_blank-blank.ensures,
      c.is_direction-undirected.ensures,
    )
    (looked_at _ _ _ _ _)
