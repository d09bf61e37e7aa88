-- What laying down and taking up answer, return and write, on any input: 02, request 5.
use Rattle.std.specs.Prelude.{List, ◌++◌, ℕ, ltb, eqb, length, drop}
use Rattle.laws.specs.Choice.{choose}
use Rattle.refusals.specs.Refusals.{done, lay_down_order, take_up_order}
use Rattle.cipher.specs.Schedule.{bad}
use Rattle.cipher.specs.declared.Schedule.{Schedule}
use Rattle.stream_layout.specs.Layout.{record_length, spelt}
use Rattle.stream.specs.State.{bad_state, zero_stream}
use Rattle.stream.specs.Calls.{started_as}
use Rattle.stream.specs.declared.Stream.{Stream}
use Rattle.stream.specs.Numbered.{Started}
use Rattle.stream_record.specs.Record.{record_of, stream_from, bad_record, differs}

-- ---- laying a stream down: its record at the front of the output, the rest as it was
unfoldable pub lay_down_refusal : Stream → (room : ℕ) → ℕ
lay_down_refusal s room = lay_down_order (bad_state s) (ltb room record_length)

unfoldable pub lay_down_out : Stream → List ℕ → List ℕ
lay_down_out s o = choose (eqb (lay_down_refusal s (length o)) done) (record_of s ++ drop record_length o) o

-- ---- taking a record up, with a schedule
unfoldable pub take_up_refusal : Schedule → List ℕ → ℕ
take_up_refusal s r = take_up_order (bad s) (bad_record r) (differs s (spelt r))

unfoldable pub take_up : Schedule → List ℕ → Started
take_up s r =
    choose (eqb (take_up_refusal s r) done)
    (started_as done (stream_from s (spelt r)))
    (started_as (take_up_refusal s r) zero_stream)
