-- The number of each refusal, and of an answer: 0 is done.
use Rattle.std.specs.Prelude.{ℕ, Result, Ok, Err}
use Rattle.refusals.specs.Refusals as refusal
use Rattle.refusals.specs.declared.Refusal.{Refusal}
use Rattle.refusals.specs.declared.Refusal.TheVariants as R

abbrev pub number_of : Refusal → ℕ
number_of R.UnknownCipher = refusal.unknown_cipher
number_of R.KeyLength = refusal.key_length
number_of R.FirstBlockLength = refusal.first_block_length
number_of R.Direction = refusal.direction
number_of R.BadSchedule = refusal.bad_schedule
number_of R.BadState = refusal.bad_state
number_of R.Closed = refusal.closed
number_of R.OverLimit = refusal.over_limit
number_of R.NoRoom = refusal.no_room
number_of R.BytesHeld = refusal.bytes_held
number_of R.BlockLength = refusal.block_length
number_of R.BadCard = refusal.bad_card
number_of R.BadRecord = refusal.bad_record
number_of R.NoSlot = refusal.no_slot
number_of R.BadStreamRecord = refusal.bad_stream_record
number_of R.OtherSchedule = refusal.other_schedule
number_of R.BlankKey = refusal.blank_key

abbrev pub number : Result Unit Refusal → ℕ
number (Ok x) = refusal.done
number (Err r) = number_of r
