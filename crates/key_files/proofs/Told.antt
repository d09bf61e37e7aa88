-- What `spelled` makes of an answer of `hex_digits::read`.
use mathlib.Core.Path.{◌≡◌, sym, ap, ◌∙◌}
use mathlib.Core.List.{List}
use Prim.Native.Nat.{ℕ, ◌<◌}
use native.Mathlib.Omega.{arith}
use lib.ListN.{length}
use Rattle.std.specs.Prelude.{IfSome, Result, Ok, Err}
use Rattle.io.specs.Counts.{IsPrefixLen}
use Rattle.io.proofs.Counting.{prefix_len_of_le}
use Rattle.hex_digits.specs.Read.{reading, Read}
use Rattle.hex_digits.specs.declared.Misspelled.{Misspelled}
use Rattle.hex_digits.specs.declared.Misspelled.TheVariants.{BadCharacter}
use Rattle.hex_digits.proofs.Answers.{known}
use Rattle.key_files.specs.Spelled.{laid, Spelled}

module _ (text before after : List ℕ) (long : length after ≡ length before) where
  laid_within : (r : Result ℕ Misspelled) → r ≡ reading text (length before) → IfSome (laid r) (λ n. IsPrefixLen n after)
  laid_within (Ok n) e = let h = known text (length before) (Ok n) e in prefix_len_of_le n after (omega arith)
  laid_within (Err why) e = tt

  -- the answer q, which is known to be r
  pub told : (r q : Result ℕ Misspelled) → q ≡ r → Read text before q after → Spelled text before (laid r) after
  told r q e h =
      let a = sym e ∙ h.answers in
      record { counts = laid_within r a; answers = ap laid a; writes = h.writes }

  pub place_within : (place : ℕ) (q : Result ℕ Misspelled) → q ≡ Err (BadCharacter place) → Read text before q after → place < length text
  place_within place q e h = known text (length before) (Err (BadCharacter place)) (sym e ∙ h.answers)
