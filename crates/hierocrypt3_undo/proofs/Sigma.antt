-- σ and its inverse with the same constant undo one another (002, section 2.3.3), on intermediate keys of four pieces of eight bytes.
use mathlib.Core.Path.{◌≡◌, ap, ◌∙◌}
use mathlib.Core.List.{List, ◌++◌}
use Prim.Native.Nat.{ℕ}
use lib.Dec.{lit<}
use lib.ListN.{get_or}
use Rattle.laws.specs.Places.{layer, part}
use Rattle.laws.specs.Bytes.{Byte, Bytes}
use Rattle.laws.specs.Inverse.{Inverse}
use Rattle.laws.proofs.Places.{each_tab}
use Rattle.laws.proofs.Parts.{left_half, right_half, joined_halves}
use Rattle.laws.proofs.Words.{part_bytes, bytes_append}
use Rattle.laws.proofs.XorLists.{xor_l_bytes, xor_l_cancel_r}
use Rattle.hierocrypt3_tables.specs.Operations.{s}
use Rattle.hierocrypt3_keys.specs.Operations.{P, P⁻, M5E, MB3, Fσ}
use Rattle.hierocrypt3_keys.specs.declared.Intermediate.{Intermediate}
use Rattle.hierocrypt3_keys.specs.Keys.{◌⊕◌, σ0, σ, σ⁻, W1, W2}
use Rattle.hierocrypt3_undo.proofs.Substitution.{s_inverse}
use Rattle.hierocrypt3_undo.proofs.M5E.{M5E_inverse}
use Rattle.hierocrypt3_undo.proofs.P.{P_inverse}

pub record Pieces (z : Intermediate) : Type 0 where
  pub p1 : Bytes 8 z.z1
  pub p2 : Bytes 8 z.z2
  pub p3 : Bytes 8 z.z3
  pub p4 : Bytes 8 z.z4

-- ---- Fσ
pub Fσ_bytes : (x : List ℕ) → Bytes 8 x → Bytes 8 (Fσ x)
unfolding Fσ
Fσ_bytes x w = (P_inverse 2 (lit< tt)).on (layer 8 0 (λ j. s) x) (each_tab Byte 0 8 (λ j. s (get_or x j 0)) (λ j h. s_inverse.on (get_or x j 0) (w.each j h)))

feistel_bytes : (x y z : List ℕ) → Bytes 8 x → Bytes 8 y → Bytes 8 z → Bytes 8 (x ⊕ Fσ (y ⊕ z))
feistel_bytes x y z u v w = xor_l_bytes 8 x (Fσ (y ⊕ z)) u (Fσ_bytes (y ⊕ z) (xor_l_bytes 8 y z v w))

-- ---- bytes stay bytes
pub σ0_pieces : (g : List ℕ) → Bytes 8 g → (z : Intermediate) → Pieces z → Pieces (σ0 g z)
unfolding σ0
σ0_pieces g h z w =
    let y3 : List ℕ = M5E z.z3 ⊕ g in
    let w3 : Bytes 8 y3 = xor_l_bytes 8 (M5E z.z3) g (M5E_inverse.on z.z3 w.p3) h in
    record {
      p1 = w.p2;
      p2 = feistel_bytes z.z1 z.z2 y3 w.p1 w.p2 w3;
      p3 = w3;
      p4 = M5E_inverse.on z.z4 w.p4;
    }

module _ (g : List ℕ) (h : Bytes 8 g) (z : Intermediate) (w : Pieces z) where
  abbrev both : List ℕ
  both = z.z3 ++ z.z4

  both_bytes : Bytes 16 both
  both_bytes = bytes_append 8 8 z.z3 z.z4 w.p3 w.p4

  mixed_bytes : Bytes 16 (P 4 both)
  mixed_bytes = (P_inverse 4 (lit< tt)).on both both_bytes

  pub σ_pieces : Pieces (σ g z)
  unfolding σ
  σ_pieces =
      σ0_pieces g h (record { z1 = z.z1; z2 = z.z2; z3 = part 0 0 8 (P 4 both); z4 = part 0 8 8 (P 4 both) })
      (record { p1 = w.p1; p2 = w.p2; p3 = part_bytes 16 0 8 (P 4 both) mixed_bytes; p4 = part_bytes 16 8 8 (P 4 both) mixed_bytes })

  pub W1_bytes : Bytes 8 (W1 g z)
  W1_bytes = M5E_inverse.off (z.z3 ⊕ g) (xor_l_bytes 8 z.z3 g w.p3 h)

  pub W2_bytes : Bytes 8 (W2 z)
  W2_bytes = M5E_inverse.off z.z4 w.p4

  abbrev unmixed : List ℕ
  unmixed = P⁻ 4 (W1 g z ++ W2 z)

  unmixed_bytes : Bytes 16 unmixed
  unmixed_bytes = (P_inverse 4 (lit< tt)).off (W1 g z ++ W2 z) (bytes_append 8 8 (W1 g z) (W2 z) W1_bytes W2_bytes)

  pub σ⁻_pieces : Pieces (σ⁻ g z)
  unfolding σ⁻
  σ⁻_pieces =
      record {
        p1 = feistel_bytes z.z2 z.z1 z.z3 w.p2 w.p1 w.p3;
        p2 = w.p1;
        p3 = part_bytes 16 0 8 unmixed unmixed_bytes;
        p4 = part_bytes 16 8 8 unmixed unmixed_bytes;
      }

  -- ---- there and back
  σ_undo : σ⁻ g (σ g z) ≡ z
  unfolding σ σ0 σ⁻
  σ_undo =
      let m1 : List ℕ = part 0 0 8 (P 4 both) in
      let m2 : List ℕ = part 0 8 8 (P 4 both) in
      let v1 : Bytes 8 m1 = part_bytes 16 0 8 (P 4 both) mixed_bytes in
      let v2 : Bytes 8 m2 = part_bytes 16 8 8 (P 4 both) mixed_bytes in
      let u1 : MB3 ((M5E m1 ⊕ g) ⊕ g) ≡ m1 = ap MB3 (xor_l_cancel_r 8 (M5E m1) g (M5E_inverse.on m1 v1).long) ∙ M5E_inverse.undo m1 v1 in
      let u2 : MB3 (M5E m2) ≡ m2 = M5E_inverse.undo m2 v2 in
      let x : P⁻ 4 (MB3 ((M5E m1 ⊕ g) ⊕ g) ++ MB3 (M5E m2)) ≡ both =
      (λ i. P⁻ 4 (u1 i ++ u2 i)) ∙ ap (P⁻ 4) (joined_halves (P 4 both) mixed_bytes.long) ∙ (P_inverse 4 (lit< tt)).undo both both_bytes in
      λ i. record {
        z1 = xor_l_cancel_r 8 z.z1 (Fσ (z.z2 ⊕ (M5E m1 ⊕ g))) w.p1.long i;
        z2 = z.z2;
        z3 = (ap (part 0 0 8) x ∙ left_half z.z3 z.z4 w.p3.long) i;
        z4 = (ap (part 0 8 8) x ∙ right_half z.z3 z.z4 w.p3.long w.p4.long) i;
      }

  σ_redo : σ g (σ⁻ g z) ≡ z
  unfolding σ σ0 σ⁻
  σ_redo =
      let x : P 4 (part 0 0 8 unmixed ++ part 0 8 8 unmixed) ≡ W1 g z ++ W2 z =
      ap (P 4) (joined_halves unmixed unmixed_bytes.long)
      ∙ (P_inverse 4 (lit< tt)).redo (W1 g z ++ W2 z) (bytes_append 8 8 (W1 g z) (W2 z) W1_bytes W2_bytes) in
      let y3 : M5E (part 0 0 8 (P 4 (part 0 0 8 unmixed ++ part 0 8 8 unmixed))) ⊕ g ≡ z.z3 =
      ap (λ (l : List ℕ). M5E l ⊕ g) (ap (part 0 0 8) x ∙ left_half (W1 g z) (W2 z) W1_bytes.long)
      ∙ ap (λ (l : List ℕ). l ⊕ g) (M5E_inverse.redo (z.z3 ⊕ g) (xor_l_bytes 8 z.z3 g w.p3 h))
      ∙ xor_l_cancel_r 8 z.z3 g w.p3.long in
      let y4 : M5E (part 0 8 8 (P 4 (part 0 0 8 unmixed ++ part 0 8 8 unmixed))) ≡ z.z4 =
      ap M5E (ap (part 0 8 8) x ∙ right_half (W1 g z) (W2 z) W1_bytes.long W2_bytes.long) ∙ M5E_inverse.redo z.z4 w.p4 in
      λ i. record {
        z1 = z.z1;
        z2 = (ap (λ (l : List ℕ). (z.z2 ⊕ Fσ (z.z1 ⊕ z.z3)) ⊕ Fσ (z.z1 ⊕ l)) y3 ∙ xor_l_cancel_r 8 z.z2 (Fσ (z.z1 ⊕ z.z3)) w.p2.long) i;
        z3 = y3 i;
        z4 = y4 i;
      }

pub σ_inverse : (g : List ℕ) → Bytes 8 g → Inverse Pieces (σ g) (σ⁻ g)
σ_inverse g h = record { on = σ_pieces g h; off = σ⁻_pieces g h; undo = σ_undo g h; redo = σ_redo g h }
