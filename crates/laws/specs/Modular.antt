-- The inverse of an odd number modulo 2^(k+1), by a power (001: z to the 2^31 - 1, modulo 2^32).
use Rattle.std.specs.Prelude.{ℕ, suc, ◌-◌, ◌%◌, ◌^◌}

unfoldable pub odd_inverse : ℕ → ℕ → ℕ
odd_inverse k z = z ^ (2 ^ k - 1) % 2 ^ suc k
