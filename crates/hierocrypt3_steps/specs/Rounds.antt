-- How many rounds a block takes: 002, section 2.1.
use Rattle.std.specs.Prelude.{ℕ, ◌+◌, ◌/◌}

-- 6, 7 or 8 for a key of 16, 24 or 32 bytes
abbrev pub T : ℕ → ℕ
T len = len / 8 + 4
