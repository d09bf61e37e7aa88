-- Two functions that undo one another, both ways round, on the values of which P holds.
use Rattle.std.specs.Prelude.{◌≡◌}

pub record Inverse {A : Type 0} (P : A → Type 0) (f g : A → A) : Type 0 where
  pub on : (a : A) → P a → P (f a)
  pub off : (a : A) → P a → P (g a)
  pub undo : (a : A) → P a → g (f a) ≡ a
  pub redo : (a : A) → P a → f (g a) ≡ a
