-- A stream as the fields of a record, and a record as the stream that it spells: 02, request 5. The layout is that of stream_layout.
use Rattle.std.specs.Prelude.{Bool, true, not, List, [], ◌∷◌, ◌++◌, ℕ, ltb, eqb, length, take, get_or}
use Rattle.laws.specs.Choice.{choose}
use Rattle.cipher.specs.Schedule.{schedule_of, zero_schedule}
use Rattle.cipher.specs.declared.Schedule.{Schedule}
use Rattle.stream_layout.specs.Layout.{record_length, laid, spelt}
use Rattle.stream_layout.specs.declared.Fields.{Fields}
use Rattle.stream.specs.State.{stream_of, bad_state}
use Rattle.stream.specs.declared.Stream.{Stream}

-- ---- a stream's fields: closed is 0 or 1, and the last held byte always zero
abbrev pub fields_of : Stream → Fields
fields_of s = record {
  cipher = s.schedule.cipher;
  key_length = s.schedule.key_length;
  direction = s.direction;
  closed = choose s.closed 1 0;
  count = s.count;
  chain = s.chain;
  held = s.held ++ (0 ∷ []);
}

-- its record
unfoldable pub record_of : Stream → List ℕ
record_of s = laid (fields_of s)

-- ---- the stream that the fields spell, under a schedule
abbrev pub stream_from : Schedule → Fields → Stream
stream_from s f = stream_of s f.direction f.count f.chain (take 15 f.held) (eqb f.closed 1)

-- the record has no round keys: a schedule of its cipher and key length, with zeros for them
abbrev pub keyless : Fields → Schedule
keyless f = schedule_of zero_schedule.round_keys f.cipher f.key_length

-- ---- when a record is bad: a closed byte over 1, a last held byte that isn't zero, or a field that would make a bad state
unfoldable pub bad_fields : Fields → Bool
bad_fields f =
    choose (ltb 1 f.closed) true
    (choose (not (eqb (get_or f.held 15 0) 0)) true
    (bad_state (stream_from (keyless f) f)))

-- or a wrong length
unfoldable pub bad_record : List ℕ → Bool
bad_record r = choose (not (eqb (length r) record_length)) true (bad_fields (spelt r))

-- ---- when it is of another schedule: cipher or key length differ
unfoldable pub differs : Schedule → Fields → Bool
differs s f = choose (not (eqb f.cipher s.cipher)) true (not (eqb f.key_length s.key_length))
