-- A table is s at each of its 256 places, by one computed test over it: the power by squaring is the rule's power.
use mathlib.Core.Path.{◌≡◌, sym, ap, ◌∙◌, subst}
use mathlib.Core.Bool.{Bool}
use mathlib.Core.List.{List}
use Prim.Native.Nat.{ℕ, ◌+◌, ◌*◌, ◌%◌, ◌^◌, ◌<◌}
use lib.Dec.{T, eqb, eqb→eq, lit<}
use lib.ListN.{length, get_or}
use Rattle.laws.specs.Bytes.{Byte}
use Rattle.laws.proofs.Places.{length-tab, tab_is, get_or-tab}
use Rattle.laws.proofs.Power.{power_bits}
use Rattle.laws.proofs.Fields.{power_11b}
use Rattle.laws.proofs.Table.{every, table_at}
use Rattle.e2_table.specs.Substitution.{s, s_table}

unfoldable pub right : ℕ → ℕ → Bool
right x y = eqb y ((97 * power_bits 0x11b 8 x 127 + 225) % 2 ^ 8)

pub table_by_rule : (xs : List ℕ) → length xs ≡ 256 → T (every right 0 xs) → xs ≡ s_table
unfolding s_table s right
table_by_rule xs e t =
    tab_is 256 s 0 xs e
    (λ x h.
    eqb→eq (get_or xs x 0) ((97 * power_bits 0x11b 8 x 127 + 225) % 2 ^ 8) (table_at right xs t x (subst (λ (n : ℕ). x < n) (sym e) h))
    ∙ ap (λ (n : ℕ). (97 * n + 225) % 2 ^ 8) (power_11b x 127 h (lit< tt)))

pub s_table_at : (x : ℕ) → Byte x → get_or s_table x 0 ≡ s x
unfolding s_table
s_table_at x h = get_or-tab 256 s x 0 h

pub length-s_table : length s_table ≡ 256
unfolding s_table
length-s_table = length-tab 256 s
