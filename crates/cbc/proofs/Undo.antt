-- Deciphering a chained message undoes enciphering it, and the reverse, over any block functions that undo one another on 16 bytes. And what CBC makes of blocks are
-- blocks, as many.
use mathlib.Core.Path.{◌≡◌, refl, sym, ap, ap₂, ◌∙◌}
use mathlib.Core.List.{List, [], ◌∷◌, ◌++◌}
use Prim.Native.Nat.{ℕ, zero, suc, ◌+◌, ◌*◌, ◌/◌, ◌≤◌}
use native.Mathlib.Omega.{arith}
use lib.ListN.{length, take, drop, length-append, length-drop}
use lib.Seq.{take_at, drop_at, take-add, length-take-le}
use Rattle.laws.specs.Bytes.{Bytes, xor_l}
use Rattle.laws.specs.Inverse.{Inverse}
use Rattle.laws.proofs.Words.{Words, words_take, words_drop, each_words}
use Rattle.laws.proofs.XorLists.{xor_l_bytes, xor_l_cancel_r}
use Rattle.cbc.specs.Cbc.{cbc_encryption, cbc_decryption, out, join, blocks, whole, answer, Blocks}

-- ---- bytes to blocks and back
pub blocks_are : (n : ℕ) (l : List ℕ) → 16 * n ≤ length l → Words 8 l → Blocks (blocks n l)
blocks_are zero l h b = tt
blocks_are (suc n) l h b =
    let d = length-drop 16 l in
    (each_words 8 16 (take 16 l) (length-take-le 16 l (omega arith)) (words_take 8 16 l b), blocks_are n (drop 16 l) (omega arith) (words_drop 8 16 l b))

pub length-blocks : (n : ℕ) (l : List ℕ) → length (blocks n l) ≡ n
length-blocks zero l = refl
length-blocks (suc n) l = ap suc (length-blocks n (drop 16 l))

pub length-join : (bs : List (List ℕ)) → Blocks bs → length (join bs) ≡ 16 * length bs
length-join [] h = refl
length-join (b ∷ bs) h = let l = h.0.long in let i = length-join bs h.1 in length-append b (join bs) ∙ omega arith

blocks-join : (bs : List (List ℕ)) (n : ℕ) → Blocks bs → n ≡ length bs → blocks n (join bs) ≡ bs
blocks-join [] zero h e = refl
blocks-join [] (suc n) h e = absurd (omega arith)
blocks-join (b ∷ bs) zero h e = absurd (omega arith)
blocks-join (b ∷ bs) (suc n) h e =
    ap₂ (λ (y : List ℕ) (r : List (List ℕ)). y ∷ r) (take_at b (join bs) 16 h.0.long)
    (ap (blocks n) (drop_at b (join bs) 16 h.0.long) ∙ blocks-join bs n h.1 (omega arith))

pub whole_join : (bs : List (List ℕ)) → Blocks bs → whole (join bs) ≡ bs
whole_join bs h = let l = length-join bs h in blocks-join bs (length (join bs) / 16) h (omega arith)

pub join-blocks : (n : ℕ) (l : List ℕ) → join (blocks n l) ≡ take (16 * n) l
join-blocks zero l = refl
join-blocks (suc n) l =
    let e : 16 + 16 * n ≡ 16 * suc n = omega arith in
    ap (λ (r : List ℕ). take 16 l ++ r) (join-blocks n (drop 16 l)) ∙ sym (take-add 16 (16 * n) l) ∙ ap (λ (k : ℕ). take k l) e

-- ---- blocks in, blocks out
module _ (E D : List ℕ → List ℕ) (v : Inverse (Bytes 16) E D) where
  encryption_blocks : (c : List ℕ) (ps : List (List ℕ)) → Bytes 16 c → Blocks ps → Blocks (cbc_encryption E c ps)
  encryption_blocks c [] hc hp = tt
  encryption_blocks c (p ∷ ps) hc hp =
      let b = v.on (xor_l 16 p c) (xor_l_bytes 16 p c hp.0 hc) in (b, encryption_blocks (E (xor_l 16 p c)) ps b hp.1)

  decryption_blocks : (c : List ℕ) (xs : List (List ℕ)) → Bytes 16 c → Blocks xs → Blocks (cbc_decryption D c xs)
  decryption_blocks c [] hc hx = tt
  decryption_blocks c (x ∷ xs) hc hx = (xor_l_bytes 16 (D x) c (v.off x hx.0) hc, decryption_blocks x xs hx.0 hx.1)

  -- ---- undone, block by block
  decryption_encryption : (c : List ℕ) (ps : List (List ℕ)) → Bytes 16 c → Blocks ps → cbc_decryption D c (cbc_encryption E c ps) ≡ ps
  decryption_encryption c [] hc hp = refl
  decryption_encryption c (p ∷ ps) hc hp =
      let x = xor_l_bytes 16 p c hp.0 hc in
      ap₂ (λ (y : List ℕ) (r : List (List ℕ)). y ∷ r)
      (ap (λ (y : List ℕ). xor_l 16 y c) (v.undo (xor_l 16 p c) x) ∙ xor_l_cancel_r 16 p c hp.0.long)
      (decryption_encryption (E (xor_l 16 p c)) ps (v.on (xor_l 16 p c) x) hp.1)

  encryption_decryption : (c : List ℕ) (xs : List (List ℕ)) → Bytes 16 c → Blocks xs → cbc_encryption E c (cbc_decryption D c xs) ≡ xs
  encryption_decryption c [] hc hx = refl
  encryption_decryption c (x ∷ xs) hc hx =
      let e : E (xor_l 16 (xor_l 16 (D x) c) c) ≡ x = ap E (xor_l_cancel_r 16 (D x) c (v.off x hx.0).long) ∙ v.redo x hx.0 in
      ap (λ (y : List ℕ). y ∷ cbc_encryption E y (cbc_decryption D x xs)) e
      ∙ ap (λ (r : List (List ℕ)). x ∷ r) (encryption_decryption x xs hx.0 hx.1)

  -- ---- undone, as messages: the whole blocks come back
  module _ (c l : List ℕ) (hc : Bytes 16 c) (hl : Words 8 l) where
    its_blocks : Blocks (whole l)
    its_blocks = blocks_are (length l / 16) l (omega arith) hl

    pub message_undo : answer E D 2 c (answer E D 1 c l) ≡ take (16 * (length l / 16)) l
    unfolding answer out
    message_undo =
        ap (λ (bs : List (List ℕ)). join (cbc_decryption D c bs)) (whole_join (cbc_encryption E c (whole l)) (encryption_blocks c (whole l) hc its_blocks))
        ∙ ap join (decryption_encryption c (whole l) hc its_blocks) ∙ join-blocks (length l / 16) l

    pub message_redo : answer E D 1 c (answer E D 2 c l) ≡ take (16 * (length l / 16)) l
    unfolding answer out
    message_redo =
        ap (λ (bs : List (List ℕ)). join (cbc_encryption E c bs)) (whole_join (cbc_decryption D c (whole l)) (decryption_blocks c (whole l) hc its_blocks))
        ∙ ap join (encryption_decryption c (whole l) hc its_blocks) ∙ join-blocks (length l / 16) l
