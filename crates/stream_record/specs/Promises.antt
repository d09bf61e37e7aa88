-- What each call promises, on any input: all that it returns, and every byte of the output.
use Rattle.std.specs.Prelude.{◌≡◌, List, ℕ, length}
use Rattle.cipher.specs.declared.Schedule.{Schedule}
use Rattle.stream.specs.declared.Stream.{Stream}
use Rattle.stream.specs.Numbered.{Started}
use Rattle.stream_record.specs.Calls.{lay_down_refusal, lay_down_out, take_up}

-- a stream laid down in the output o answers r and leaves o'
pub record LaysDown (s : Stream) (o : List ℕ) (r : ℕ) (o' : List ℕ) : Type 0 where
  pub answered : r ≡ lay_down_refusal s (length o)
  pub left : o' ≡ lay_down_out s o

-- a record taken up with a schedule returns r. Round keys aren't in a record, so another key of the same length can't be noticed: the stream is
-- then one of that key, and goes on with wrong bytes (`unnoticed`, stream_record_laws)
pub record TakesUp (s : Schedule) («record» : List ℕ) (r : Started) : Type 0 where
  pub returned : r ≡ take_up s «record»
