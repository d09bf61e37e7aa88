-- The refusals: 01, 'Refusal numbers', and 02, requests 1, 3 and 5 to 7. Their numbers, and the order of each call, in which the first that applies is given; 0 is done.
use Rattle.std.specs.Prelude.{Bool, List, [], ◌∷◌, ℕ}
use Rattle.laws.specs.Choice.{choose}

-- ---- the table
abbrev pub done : ℕ
done = 0

abbrev pub unknown_cipher : ℕ
unknown_cipher = 1

abbrev pub key_length : ℕ
key_length = 2

abbrev pub first_block_length : ℕ
first_block_length = 3

abbrev pub direction : ℕ
direction = 4

abbrev pub bad_schedule : ℕ
bad_schedule = 5

abbrev pub bad_state : ℕ
bad_state = 6

abbrev pub closed : ℕ
closed = 7

abbrev pub over_limit : ℕ
over_limit = 8

abbrev pub no_room : ℕ
no_room = 9

abbrev pub bytes_held : ℕ
bytes_held = 10

abbrev pub block_length : ℕ
block_length = 11

abbrev pub bad_card : ℕ
bad_card = 12

abbrev pub bad_record : ℕ
bad_record = 13

abbrev pub no_slot : ℕ
no_slot = 14

abbrev pub bad_stream_record : ℕ
bad_stream_record = 15

abbrev pub other_schedule : ℕ
other_schedule = 16

abbrev pub blank_key : ℕ
blank_key = 17

-- ---- the orders: each argument says whether its cause applies
-- the first of the causes that applies: each says whether it does, and its number
abbrev pub first : List (Bool × ℕ) → ℕ
first [] = done
first (c ∷ cs) = choose c.0 c.1 (first cs)

abbrev pub set_up_order : (cipher length blank : Bool) → ℕ
set_up_order c l b = first ((c, unknown_cipher) ∷ (l, key_length) ∷ (b, blank_key) ∷ [])

abbrev pub block_order : (schedule block room : Bool) → ℕ
block_order s b r = first ((s, bad_schedule) ∷ (b, block_length) ∷ (r, no_room) ∷ [])

abbrev pub start_order : (schedule dir block : Bool) → ℕ
start_order s d b = first ((s, bad_schedule) ∷ (d, direction) ∷ (b, first_block_length) ∷ [])

abbrev pub piece_order : (state ended limit room : Bool) → ℕ
piece_order s e l r = first ((s, bad_state) ∷ (e, closed) ∷ (l, over_limit) ∷ (r, no_room) ∷ [])

abbrev pub finish_order : (state ended held : Bool) → ℕ
finish_order s e h = first ((s, bad_state) ∷ (e, closed) ∷ (h, bytes_held) ∷ [])

abbrev pub entry_order : (cipher length blank dir block room : Bool) → ℕ
entry_order c l k d b r =
    first ((c, unknown_cipher) ∷ (l, key_length) ∷ (k, blank_key) ∷ (d, direction) ∷ (b, block_length) ∷ (r, no_room) ∷ [])

abbrev pub put_order : (card «record» slot : Bool) → ℕ
put_order c r s = first ((c, bad_card) ∷ (r, bad_record) ∷ (s, no_slot) ∷ [])

abbrev pub seal_start_order : (schedule : Bool) → ℕ
seal_start_order s = first ((s, bad_schedule) ∷ [])

abbrev pub seal_piece_order : (state ended limit : Bool) → ℕ
seal_piece_order s e l = first ((s, bad_state) ∷ (e, closed) ∷ (l, over_limit) ∷ [])

abbrev pub seal_write_order : (state ended room : Bool) → ℕ
seal_write_order s e r = first ((s, bad_state) ∷ (e, closed) ∷ (r, no_room) ∷ [])

abbrev pub seal_check_order : (state ended : Bool) → ℕ
seal_check_order s e = first ((s, bad_state) ∷ (e, closed) ∷ [])

abbrev pub lay_down_order : (state room : Bool) → ℕ
lay_down_order s r = first ((s, bad_state) ∷ (r, no_room) ∷ [])

abbrev pub take_up_order : (schedule «record» other : Bool) → ℕ
take_up_order s r o = first ((s, bad_schedule) ∷ (r, bad_stream_record) ∷ (o, other_schedule) ∷ [])

abbrev pub compare_order : (one two room : Bool) → ℕ
compare_order a b r = first ((a, bad_card) ∷ (b, bad_card) ∷ (r, no_room) ∷ [])
