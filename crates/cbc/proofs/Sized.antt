-- As many blocks go out as come in, each of 16 bytes, whatever the block functions are, so long as E gives 16 bytes.
use mathlib.Core.Path.{◌≡◌, refl, ap, ◌∙◌}
use mathlib.Core.Bool.{Bool, true, false}
use mathlib.Core.List.{List, [], ◌∷◌}
use Prim.Native.Nat.{ℕ, ◌*◌}
use native.Mathlib.Omega.{arith}
use lib.Dec.{eqb}
use lib.ListN.{length, length-append}
use Rattle.laws.specs.Choice.{choose}
use Rattle.laws.specs.Bytes.{xor_l}
use Rattle.laws.proofs.XorLists.{length-xor_l}
use Rattle.cbc.specs.Cbc.{cbc_encryption, cbc_decryption, out, join, blocks}
use Rattle.cbc.proofs.Undo.{length-blocks}

abbrev pub Sized : (List ℕ → List ℕ) → Type 0
Sized E = (x : List ℕ) → length (E x) ≡ 16

module _ (E D : List ℕ → List ℕ) (sized : Sized E) where
  encryption_long : (c : List ℕ) (bs : List (List ℕ)) → length (join (cbc_encryption E c bs)) ≡ 16 * length bs
  encryption_long c [] = refl
  encryption_long c (b ∷ bs) =
      let l = sized (xor_l 16 b c) in
      let i = encryption_long (E (xor_l 16 b c)) bs in
      length-append (E (xor_l 16 b c)) (join (cbc_encryption E (E (xor_l 16 b c)) bs)) ∙ omega arith

  decryption_long : (c : List ℕ) (bs : List (List ℕ)) → length (join (cbc_decryption D c bs)) ≡ 16 * length bs
  decryption_long c [] = refl
  decryption_long c (b ∷ bs) =
      let l = length-xor_l 16 (D b) c in
      let i = decryption_long b bs in
      length-append (xor_l 16 (D b) c) (join (cbc_decryption D b bs)) ∙ omega arith

  pub out_long : (d : ℕ) (c : List ℕ) (n : ℕ) (l : List ℕ) → length (join (out E D d c (blocks n l))) ≡ 16 * n
  unfolding out
  out_long d c n l = go (eqb d 1) ∙ ap (λ (k : ℕ). 16 * k) (length-blocks n l)
    where
      go : (t : Bool) → length (join (choose t (cbc_encryption E c (blocks n l)) (cbc_decryption D c (blocks n l)))) ≡ 16 * length (blocks n l)
      go true = encryption_long c (blocks n l)
      go false = decryption_long c (blocks n l)
