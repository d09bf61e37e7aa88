-- What each call promises, on any input: all that it returns, and every byte of the output.
use Rattle.std.specs.Prelude.{◌≡◌, List, ℕ, length}
use Rattle.cipher.specs.declared.Schedule.{Schedule}
use Rattle.stream.specs.Calls.{start, feed, feed_out, finish}
use Rattle.stream.specs.declared.Stream.{Stream}
use Rattle.stream.specs.Numbered.{Started}
use Rattle.stream.specs.Numbered.{Fed}
use Rattle.stream.specs.Numbered.{Finished}

-- start under a schedule, in a direction, from a first block returns r
pub record Starts (s : Schedule) (direction : ℕ) (first : List ℕ) (r : Started) : Type 0 where
  pub returned : r ≡ start s direction first

-- a piece with the output o returns r and leaves o'
pub record Feeds (s : Stream) (piece o : List ℕ) (r : Fed) (o' : List ℕ) : Type 0 where
  pub returned : r ≡ feed s piece (length o)
  pub left : o' ≡ feed_out s piece o

-- finish returns r
pub record Finishes (s : Stream) (r : Finished) : Type 0 where
  pub returned : r ≡ finish s
