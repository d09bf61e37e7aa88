-- E2's transformations give bytes.
use mathlib.Core.List.{List}
use Prim.Native.Nat.{ℕ, ◌+◌, ◌*◌}
use native.Mathlib.Nat.{mod-lt}
use lib.Pow.{pow_pos}
use lib.ListN.{get_or}
use lib.Bits.{bit_xor}
use Rattle.laws.specs.Bytes.{Byte, Bytes}
use Rattle.laws.specs.Matrix.{pick}
use Rattle.laws.specs.Field.{power}
use Rattle.laws.proofs.Places.{each_tab}
use Rattle.laws.proofs.Matrix.{matrix_words, pick_adds, pick_lt}
use Rattle.e2_table.specs.Substitution.{s}
use Rattle.e2_steps.specs.Steps.{S, rows_p, P}

s_byte : (x : ℕ) → Byte (s x)
unfolding s
s_byte x = mod-lt (97 * power 0x11b x 127 + 225) (pow_pos 8)

pub S_bytes : (x : List ℕ) → Bytes 8 (S x)
unfolding S
S_bytes x = each_tab Byte 0 8 (λ j. s (get_or x j 0)) (λ j h. s_byte (get_or x j 0))

pub P_bytes : (x : List ℕ) → Bytes 8 x → Bytes 8 (P x)
unfolding P
P_bytes = matrix_words 8 8 (pick bit_xor 0) (λ c x y hx hy. pick_adds c x y) (λ c x hc hx. pick_lt 8 c x hx) rows_p tt
