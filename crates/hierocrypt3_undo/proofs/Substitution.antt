-- s and its inverse (002, section 3.6) undo one another: so do their tables, by a test over all bytes.
use mathlib.Core.Path.{◌≡◌}
use Prim.Native.Nat.{ℕ}
use lib.Dec.{eqb, eqb→eq, ltb, ltb→lt}
use lib.ListN.{get_or}
use Rattle.laws.specs.Bytes.{Byte}
use Rattle.laws.specs.Inverse.{Inverse}
use Rattle.laws.proofs.Table.{table_at}
use Rattle.laws.proofs.Inverse.{alike}
use Rattle.hierocrypt3_tables.specs.Operations.{s, s⁻}
use Rattle.hierocrypt3_tables.proofs.Sbox.{entries, entries⁻, s_entry, s⁻_entry}

entry_lt : (x : ℕ) → Byte x → Byte (get_or entries x 0)
unfolding entries
entry_lt x h = ltb→lt (get_or entries x 0) 256 (table_at (λ k y. ltb y 256) entries tt x h)

entry⁻_lt : (x : ℕ) → Byte x → Byte (get_or entries⁻ x 0)
unfolding entries⁻
entry⁻_lt x h = ltb→lt (get_or entries⁻ x 0) 256 (table_at (λ k y. ltb y 256) entries⁻ tt x h)

undo : (x : ℕ) → Byte x → get_or entries⁻ (get_or entries x 0) 0 ≡ x
unfolding entries entries⁻
undo x h = eqb→eq (get_or entries⁻ (get_or entries x 0) 0) x (table_at (λ k y. eqb (get_or entries⁻ y 0) k) entries tt x h)

redo : (x : ℕ) → Byte x → get_or entries (get_or entries⁻ x 0) 0 ≡ x
unfolding entries entries⁻
redo x h = eqb→eq (get_or entries (get_or entries⁻ x 0) 0) x (table_at (λ k y. eqb (get_or entries y 0) k) entries⁻ tt x h)

by_entries : Inverse Byte (λ x. get_or entries x 0) (λ x. get_or entries⁻ x 0)
by_entries = record { on = entry_lt; off = entry⁻_lt; undo = undo; redo = redo }

pub s_inverse : Inverse Byte s s⁻
s_inverse = alike by_entries s_entry s⁻_entry
