-- What each call promises, on any input: all that it returns, and every byte of the output.
use Rattle.std.specs.Prelude.{◌≡◌, List, ℕ, length}
use Rattle.cipher.specs.declared.Schedule.{Schedule}
use Rattle.seal.specs.Calls.{start, feed, write, write_out, check}
use Rattle.seal.specs.declared.Seal.{Seal}
use Rattle.seal.specs.Numbered.{Started}
use Rattle.seal.specs.Numbered.{Fed}
use Rattle.seal.specs.Numbered.{Written}
use Rattle.seal.specs.Numbered.{Checked}

-- the start of a seal under a schedule returns r
pub record StartsSeal (s : Schedule) (r : Started) : Type 0 where
  pub returned : r ≡ start s

-- a piece returns r
pub record FeedsSeal (s : Seal) (piece : List ℕ) (r : Fed) : Type 0 where
  pub returned : r ≡ feed s piece

-- writing the seal to the output o returns r and leaves o'
pub record WritesSeal (s : Seal) (o : List ℕ) (r : Written) (o' : List ℕ) : Type 0 where
  pub returned : r ≡ write s (length o)
  pub left : o' ≡ write_out s o

-- a check of given bytes returns r
pub record ChecksSeal (s : Seal) (given : List ℕ) (r : Checked) : Type 0 where
  pub returned : r ≡ check s given
