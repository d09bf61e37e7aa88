-- Words added to a text, one after the other.
use mathlib.Core.Path.{◌≡◌, refl, sym, ◌∙◌}
use mathlib.Core.List.{List, [], ◌++◌}
use Prim.Native.Nat.{ℕ}
use Rattle.wording.specs.Added.{Adds}
use Rattle.wording.specs.declared.Text.{Text}
use Rattle.wording.proofs.Laying.{puts_on, puts_as, puts_nothing}

pub adds_on : {a b : List ℕ} {before middle after : Text} → Adds a before middle → Adds b middle after → Adds (a ++ b) before after
adds_on x y = record { borrowed = y.borrowed ∙ x.borrowed; puts = puts_on x.puts y.puts }

-- the same words said otherwise
pub adds_as : {a b : List ℕ} {before after : Text} → a ≡ b → Adds a before after → Adds b before after
adds_as e x = record { borrowed = x.borrowed; puts = puts_as e x.puts }

pub adds_nothing : (t : Text) → Adds [] t t
adds_nothing t = record { borrowed = refl; puts = puts_nothing t.space.now t.len t.fits }

-- ---- words of which only the rest is still to be added: where the rest is added, the whole is
abbrev pub Left : (whole : List ℕ) → Text → (rest : List ℕ) → Text → Type 0
Left whole before rest now = (after : Text) → Adds rest now after → Adds whole before after

module _ {whole rest : List ℕ} {before now : Text} (l : Left whole before rest now) where
  pub left_on : {a b : List ℕ} {next : Text} → a ++ b ≡ rest → Adds a now next → Left whole before b next
  left_on e x = λ after y. l after (adds_as e (adds_on x y))

  pub left_none : rest ≡ [] → Adds whole before now
  left_none e = l now (adds_as (sym e) (adds_nothing now))
