-- The key lengths of the ciphers that have three: 16, 24 and 32 bytes (01, 'What is built').
use Rattle.std.specs.Prelude.{◌≡◌, ℕ, ◌%◌, ◌≤◌}

abbrev pub KeyLength : ℕ → Type 0
KeyLength len = (16 ≤ len) × (len ≤ 32) × (len % 8 ≡ 0)
