-- Rotations of a word: what leaves it at one end comes in at the other.
use Rattle.std.specs.Prelude.{ℕ, ◌+◌, ◌-◌, ◌*◌, ◌/◌, ◌%◌, ◌^◌}

-- a word of j + k bits: its j low bits go up, its k high bits come in below them
abbrev pub turn : ℕ → ℕ → ℕ → ℕ
turn j k x = (x % 2 ^ j) * 2 ^ k + x / 2 ^ j

-- a word of w bits, n places to the left, and n places to the right
abbrev pub rol : ℕ → ℕ → ℕ → ℕ
rol w n x = turn (w - n) n x

abbrev pub ror : ℕ → ℕ → ℕ → ℕ
ror w n x = turn n (w - n) x
