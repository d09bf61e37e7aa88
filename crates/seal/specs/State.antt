-- The seal's state and when it is bad: 02, request 3.
use Rattle.std.specs.Prelude.{Bool, true, false, not, List, ◌++◌, ℕ, ltb, take, drop}
use Rattle.laws.specs.Choice.{choose}
use Rattle.runs.specs.Zeros.{zeros}
use Rattle.cmac.specs.Cmac.{zero_block, final_length}
use Rattle.pieces.specs.Pieces.{limit}
use Rattle.cipher.specs.Schedule.{bad, zero_schedule}
use Rattle.cipher.specs.declared.Schedule.{Schedule}
use Rattle.seal.specs.declared.Seal.{Seal}

-- a seal of these parts
abbrev pub seal_of : Schedule → (count : ℕ) → (chain held : List ℕ) → (closed : Bool) → Seal
seal_of s n c h b = record { schedule = s; count = n; chain = c; held = h; closed = b }

-- a fresh one
abbrev pub fresh : Schedule → Seal
fresh s = seal_of s 0 zero_block zero_block false

-- the last block is kept back: none at count 0, else 1 to 16 bytes, with the count less them a multiple of 16
abbrev pub held_number : Seal → ℕ
held_number s = final_length s.count

abbrev pub held_bytes : Seal → List ℕ
held_bytes s = take (held_number s) s.held

-- the held bytes, with a piece behind them
abbrev pub at_hand : Seal → List ℕ → List ℕ
at_hand s piece = held_bytes s ++ piece

-- the schedule is bad, the count is over the limit, an unused held byte isn't zero, or the chain isn't zero while the count is 16 or less
unfoldable pub bad_state : Seal → Bool
bad_state s =
    choose (bad s.schedule) true
    (choose (ltb limit s.count) true
    (choose (not (zeros (drop (held_number s) s.held))) true
    (choose (ltb 16 s.count) false (not (zeros s.chain)))))

-- what a refused start returns
abbrev pub zero_seal : Seal
zero_seal = fresh zero_schedule
