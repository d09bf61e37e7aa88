-- What each call promises, on any input: all that it returns, and every byte of the output.
use Rattle.std.specs.Prelude.{◌≡◌, List, ℕ, length}
use Rattle.cipher.specs.Schedule.{enciphered, deciphered}
use Rattle.cipher.specs.Calls.{set_up, block_refusal, block_out}
use Rattle.cipher.specs.declared.Schedule.{Schedule}
use Rattle.cipher.specs.Numbered.{SetUp}

-- set-up of a key for the cipher of a number returns r
pub record SetsUp (number : ℕ) (key : List ℕ) (r : SetUp) : Type 0 where
  pub returned : r ≡ set_up number key

-- one block, worked by f, answers r and leaves o' of the output o
pub record WorksBlock (f : Schedule → List ℕ → List ℕ) (s : Schedule) (block o : List ℕ) (r : ℕ) (o' : List ℕ) : Type 0 where
  pub answered : r ≡ block_refusal s (length block) (length o)
  pub left : o' ≡ block_out f s block o

abbrev pub EnciphersBlock : Schedule → List ℕ → List ℕ → ℕ → List ℕ → Type 0
EnciphersBlock = WorksBlock enciphered

abbrev pub DeciphersBlock : Schedule → List ℕ → List ℕ → ℕ → List ℕ → Type 0
DeciphersBlock = WorksBlock deciphered
