-- 02's sentences on small records, each computed; and a key that can't be noticed.
use mathlib.Core.Path.{◌≡◌, refl}
use mathlib.Core.Bool.{false}
use mathlib.Core.List.{List, [], ◌∷◌, ◌++◌, map}
use Prim.Native.Nat.{ℕ}
use lib.ListN.{replicate, set}
use Rattle.cipher_numbers.specs.Ciphers.{number, is_cipher, is_length, is_direction, padded}
use Rattle.cipher.specs.Schedule.{schedule_of, bad}
use Rattle.cipher.specs.declared.Schedule.{Schedule}
use Rattle.refusals.specs.Refusals as refusal
use Rattle.stream.specs.State.{stream_of, bad_state}
use Rattle.stream.specs.Calls.{started_as}
use Rattle.stream.specs.declared.Stream.{Stream}
use Rattle.stream_layout.specs.Layout.{laid, spelt}
use Rattle.stream_record.specs.Record.{record_of, bad_fields, bad_record, differs}
use Rattle.stream_record.specs.Calls.{take_up_refusal, take_up}

-- two schedules of Noekeon, under two keys of 16 bytes
abbrev of_ones : Schedule
of_ones = schedule_of (padded (replicate 16 1)) 3 16

abbrev of_twos : Schedule
of_twos = schedule_of (padded (replicate 16 2)) 3 16

-- 18 bytes enciphered: the chain block 7 everywhere, and 8 and 9 held
abbrev half_read : Schedule → Stream
half_read k = stream_of k 1 18 (replicate 16 7) (8 ∷ 9 ∷ replicate 13 0) false

abbrev record_of_it : List ℕ
record_of_it = (3 ∷ 16 ∷ 1 ∷ 0 ∷ 0 ∷ 0 ∷ 0 ∷ 18 ∷ []) ++ replicate 16 7 ++ (8 ∷ 9 ∷ replicate 14 0)

it_is_laid_down : record_of (half_read of_ones) ≡ record_of_it
unfolding record_of laid
it_is_laid_down = refl

-- under another key the record is taken up all the same, as a stream of that key
another_key : take_up of_twos record_of_it ≡ started_as refusal.done (half_read of_twos)
unfolding take_up take_up_refusal bad_record bad_fields differs bad_state bad is_cipher is_length is_direction number spelt
another_key = refl

-- ---- what is refused, under the schedule that it was laid down with
abbrev changed : (place byte : ℕ) → List ℕ
changed = set record_of_it

-- no bytes, 44 bytes, a cipher of number 5, a key length of 24, direction 3, a closed byte of 1 with bytes held, and of 2, a count over the limit, an unused
-- held byte, and the last one, that isn't zero: 15. The earlier Noekeon is a cipher and another: 16; with direction 3 it is 15
all_15 : map (take_up_refusal of_ones)
    ([] ∷ (record_of_it ++ replicate 4 0) ∷ changed 0 5 ∷ changed 1 24 ∷ changed 2 3 ∷ changed 3 1 ∷ changed 3 2 ∷ changed 4 1 ∷ changed 26 1 ∷ changed 39 1
    ∷ set (changed 0 4) 2 3 ∷ [])
    ≡ replicate 11 refusal.bad_stream_record
unfolding take_up_refusal bad_record bad_fields differs bad_state bad is_cipher is_length is_direction number spelt
all_15 = refl

another_cipher : take_up_refusal of_ones (changed 0 4) ≡ refusal.other_schedule
unfolding take_up_refusal bad_record bad_fields differs bad_state bad is_cipher is_length is_direction number spelt
another_cipher = refl
