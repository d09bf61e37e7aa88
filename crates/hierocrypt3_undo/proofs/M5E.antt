-- M5E and MB3 (002, sections 3.9 and 3.10) undo one another on eight bytes. The equations are solved over unknowns.
use mathlib.Core.Path.{◌≡◌, refl, sym, ◌∙◌}
use mathlib.Core.List.{List, ◌++◌}
use Prim.Native.Nat.{ℕ}
use lib.Bits.{bit_xor}
use lib.ListN.{get_or}
use Rattle.laws.specs.Places.{tab, part}
use Rattle.laws.specs.Bytes.{Bytes}
use Rattle.laws.specs.Matrix.{bit_matrix}
use Rattle.laws.specs.Inverse.{Inverse}
use Rattle.laws.proofs.Places.{tab_self}
use Rattle.laws.proofs.Words.{part_bytes, bytes_append}
use Rattle.laws.proofs.Sums.{Sum, solve_list}
use Rattle.laws.proofs.Sums.Sum.{at, zer, ◌⊕◌}
use Rattle.hierocrypt3_steps.specs.Operations.{a, c, d}
use Rattle.hierocrypt3_keys.specs.Operations.{c⁻, M5E, MB3}
use Rattle.hierocrypt3_undo.proofs.MdsH.{bit_matrix_bytes}

-- over unknowns
abbrev solved : List (List ℕ) → List (List ℕ) → List Sum → List Sum
solved m n x = bit_matrix ◌⊕◌ zer 4 m (part zer 0 4 x) ++ bit_matrix ◌⊕◌ zer 4 n (part zer 4 4 x)

undo : (x : List ℕ) → Bytes 8 x → MB3 (M5E x) ≡ x
unfolding M5E MB3
undo x w =
    solve_list (λ y. y) (λ y z. refl) (tab 8 (λ j. get_or x j 0)) (solved d c⁻ (solved a c (tab 8 at))) (tab 8 at) tt ∙ sym (tab_self 8 0 x w.long)

redo : (x : List ℕ) → Bytes 8 x → M5E (MB3 x) ≡ x
unfolding M5E MB3
redo x w =
    solve_list (λ y. y) (λ y z. refl) (tab 8 (λ j. get_or x j 0)) (solved a c (solved d c⁻ (tab 8 at))) (tab 8 at) tt ∙ sym (tab_self 8 0 x w.long)

on_halves_lem : (m n : List (List ℕ)) (x : List ℕ) → Bytes 8 x
    → Bytes 8 (bit_matrix bit_xor 0 4 m (part 0 0 4 x) ++ bit_matrix bit_xor 0 4 n (part 0 4 4 x))
on_halves_lem m n x w =
    bytes_append 4 4 (bit_matrix bit_xor 0 4 m (part 0 0 4 x)) (bit_matrix bit_xor 0 4 n (part 0 4 4 x))
    (bit_matrix_bytes m (part 0 0 4 x) (part_bytes 8 0 4 x w)) (bit_matrix_bytes n (part 0 4 4 x) (part_bytes 8 4 4 x w))

pub M5E_inverse : Inverse (Bytes 8) M5E MB3
unfolding M5E MB3
M5E_inverse = record { on = on_halves_lem a c; off = on_halves_lem d c⁻; undo = undo; redo = redo }
