-- What every run of pieces has: a limit, and places for the bytes that complete no block (01, 'The two records').
use Rattle.std.specs.Prelude.{List, ◌++◌, ℕ, ◌-◌, length, replicate}

-- the most bytes that are accepted
abbrev pub limit : ℕ
limit = 1048576

-- n places: these bytes, and zeros
abbrev pub held_in : ℕ → List ℕ → List ℕ
held_in n l = l ++ replicate (n - length l) 0

-- the places of a stream
abbrev pub held15 : List ℕ → List ℕ
held15 = held_in 15
