-- The text of each kind.
use mathlib.Core.Path.{◌≡◌}
use Prim.Native.Nat.{ℕ}
use borrow.Author.Tests.{ne_eqb}
use Rattle.card_fields.specs.Kinds.{climb, hold, drop, kind_text}

module _ (k : ℕ) where
  pub text_climb : k ≡ 1 → climb ≡ kind_text k
  unfolding kind_text
  text_climb e = rw e

  pub text_hold : k ≡ 2 → hold ≡ kind_text k
  unfolding kind_text
  text_hold e = rw e

  pub text_drop : (k ≡ 1 → ⊥) → (k ≡ 2 → ⊥) → drop ≡ kind_text k
  unfolding kind_text
  text_drop e f = rw (ne_eqb k 1 e, ne_eqb k 2 f)
