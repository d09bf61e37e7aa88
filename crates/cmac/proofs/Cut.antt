-- Where a message is cut does not matter: the complete blocks of a ++ p, and what is behind them, from those of a, over any block function.
use mathlib.Core.Path.{◌≡◌, refl, sym, ap, ap₂, ◌∙◌}
use mathlib.Core.List.{List, [], ◌∷◌, ◌++◌}
use Prim.Native.Nat.{ℕ, zero, suc, ◌+◌, ◌-◌, ◌*◌, ◌/◌, ◌≤◌}
use native.Mathlib.Omega.{arith}
use lib.ListN.{length, drop, length-append, length-drop}
use lib.Seq.{drop-append-le, drop-drop}
use borrow.Author.Tests.{ne_eqb}
use Rattle.laws.specs.Bytes.{xor_l}
use Rattle.laws.proofs.XorLists.{xor_l_comm}
use Rattle.cbc.specs.Cbc.{cbc_encryption, last_or, chain, blocks}
use Rattle.cbc.proofs.Parts.{blocks_add, blocks-append}
use Rattle.cmac.specs.Cmac.{earlier, complete, final, final_length, chained, pushed}

-- ---- how many blocks stand before the last one
-- none before the last of up to 16 bytes, the empty message among them
pub earlier_is : (n : ℕ) → earlier n ≡ (n - 1) / 16
unfolding earlier
earlier_is zero = refl
earlier_is (suc n) = rw (ne_eqb (suc n) 0 (λ e. omega arith)) (omega arith)

pub final-length : (a : List ℕ) → length (final a) ≡ final_length (length a)
final-length a = length-drop (16 * earlier (length a)) a

-- the last block has 1 to 16 bytes, and that of the empty message none
pub final_most : (n : ℕ) → final_length n ≤ 16
final_most n = let e = earlier_is n in omega arith

-- by the bytes of the last block
pub pushed_held : (c n : ℕ) → pushed c n ≡ (final_length c + n - 1) / 16
pushed_held c n =
    let before = earlier_is c in
    let both = earlier_is (c + n) in
    omega arith

-- so many blocks are there, and at most 16 bytes behind them
pub pushed_within : (c n : ℕ) → (16 * pushed c n ≤ final_length c + n) × (final_length c + n ≤ 16 * pushed c n + 16)
pushed_within c n =
    let before = earlier_is c in
    let both = earlier_is (c + n) in
    (omega arith, omega arith)

pub pushed_none : (c : ℕ) → pushed c 0 ≡ 0
pushed_none c = let same = earlier_is (c + 0) in let before = earlier_is c in omega arith

-- ---- a message a, and p behind it
module _ (a p : List ℕ) where
  cut_earlier : earlier (length (a ++ p)) ≡ earlier (length a) + pushed (length a) (length p)
  cut_earlier =
      let l = length-append a p in
      let before = earlier_is (length a) in
      let both = earlier_is (length a + length p) in
      ap earlier l ∙ omega arith

  whole_blocks : 16 * earlier (length a) ≤ length a
  whole_blocks = let e = earlier_is (length a) in omega arith

  pub cut_final : final (a ++ p) ≡ drop (16 * pushed (length a) (length p)) (final a ++ p)
  cut_final =
      let c = cut_earlier in
      let e : 16 * earlier (length (a ++ p)) ≡ 16 * earlier (length a) + 16 * pushed (length a) (length p) = omega arith in
      ap (λ (k : ℕ). drop k (a ++ p)) e
      ∙ sym (drop-drop (16 * pushed (length a) (length p)) (16 * earlier (length a)) (a ++ p))
      ∙ ap (drop (16 * pushed (length a) (length p))) (drop-append-le (16 * earlier (length a)) a p whole_blocks)

  pub cut_complete : complete (a ++ p) ≡ complete a ++ blocks (pushed (length a) (length p)) (final a ++ p)
  cut_complete =
      ap (λ (k : ℕ). blocks k (a ++ p)) cut_earlier
      ∙ blocks_add (earlier (length a)) (pushed (length a) (length p)) (a ++ p)
      ∙ ap₂ (λ (x y : List (List ℕ)). x ++ y) (blocks-append (earlier (length a)) a p whole_blocks)
      (ap (blocks (pushed (length a) (length p))) (drop-append-le (16 * earlier (length a)) a p whole_blocks))

module _ (CIPH : List ℕ → List ℕ) where
  pub chained_append : (c : List ℕ) (a b : List (List ℕ)) → chained CIPH c (a ++ b) ≡ chained CIPH (chained CIPH c a) b
  chained_append c [] b = refl
  chained_append c (x ∷ a) b = chained_append (CIPH (xor_l 16 c x)) a b

  -- the complete blocks, in pieces as at once
  pub cut_chained : (c a p : List ℕ)
      → chained CIPH c (complete (a ++ p)) ≡ chained CIPH (chained CIPH c (complete a)) (blocks (pushed (length a) (length p)) (final a ++ p))
  cut_chained c a p =
      ap (chained CIPH c) (cut_complete a p) ∙ chained_append c (complete a) (blocks (pushed (length a) (length p)) (final a ++ p))

  -- it is the last block of the CBC from the same chain block, which is how the code comes by it
  last_of_cbc : (c : List ℕ) (ms : List (List ℕ)) → last_or c (cbc_encryption CIPH c ms) ≡ chained CIPH c ms
  last_of_cbc c [] = refl
  last_of_cbc c (m ∷ ms) =
      ap (λ (x : List ℕ). last_or (CIPH x) (cbc_encryption CIPH (CIPH x) ms)) (xor_l_comm 16 m c) ∙ last_of_cbc (CIPH (xor_l 16 c m)) ms

  pub chained_by_cbc : (c : List ℕ) (ms : List (List ℕ)) → chain CIPH 1 c ms ≡ chained CIPH c ms
  unfolding chain
  chained_by_cbc c ms = last_of_cbc c ms
