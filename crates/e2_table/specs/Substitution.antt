-- E2's substitution of a byte: 001, 's'.
use Rattle.std.specs.Prelude.{List, ℕ, ◌+◌, ◌*◌, ◌%◌, ◌^◌}
use Rattle.laws.specs.Places.{tab}
use Rattle.laws.specs.Field.{power}

-- s(x) = 97 x^127 + 225, the power in the field of x^8 + x^4 + x^3 + x + 1, the rest modulo 256. 01: this rule decides over 001's table 1, which agrees with it
unfoldable pub s : ℕ → ℕ
s x = (97 * power 0x11b x 127 + 225) % 2 ^ 8

-- s at 0, 1, .. 255
unfoldable pub s_table : List ℕ
s_table = tab 256 s
