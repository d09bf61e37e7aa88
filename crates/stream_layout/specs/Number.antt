-- A number of several bytes, the highest first (01, 'What is built': numbers of several bytes are big-endian).
use Rattle.std.specs.Prelude.{List, [], ◌∷◌, ℕ, zero, suc, ◌+◌, ◌*◌, ◌/◌, ◌%◌, ◌^◌}

-- its w bytes
abbrev pub bytes_in : (w : ℕ) → ℕ → List ℕ
bytes_in zero n = []
bytes_in (suc w) n = n / 256 ^ w % 256 ∷ bytes_in w n

-- the number that bytes spell, behind a number a
abbrev pub number_from : ℕ → List ℕ → ℕ
number_from a [] = a
number_from a (b ∷ bs) = number_from (a * 256 + b) bs

abbrev pub number_of : List ℕ → ℕ
number_of = number_from 0
