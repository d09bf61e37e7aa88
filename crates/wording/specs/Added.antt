-- A text in a space: where it begins, and words added to it.
use Rattle.std.specs.Prelude.{◌≡◌, List, ℕ, min, length}
use Rattle.std.specs.Borrow.{MutBor}
use Rattle.wording.specs.Laid.{Puts}
use Rattle.wording.specs.declared.Text.{Text}

-- the text is what stands before a place of the space, which is as it was
pub record Begins (space : MutBor (List ℕ)) (at : ℕ) (text : Text) : Type 0 where
  pub borrowed : text.space.ghost_name ≡ space.ghost_name
  pub bytes : text.space.now ≡ space.now
  pub place : text.len ≡ min at (length space.now)

-- the words were put behind the text, in the same space
pub record Adds (words : List ℕ) (before after : Text) : Type 0 where
  pub borrowed : after.space.ghost_name ≡ before.space.ghost_name
  pub puts : Puts words before.space.now before.len after.space.now after.len
