-- Deciphering undoes enciphering and the reverse, for all round keys (001: '(X ⊗ Y) ⊘ Y ≡ X', BP and its inverse, 'Алгоритм расшифрования').
use mathlib.Core.Path.{◌≡◌, refl, ap, ap₂, ◌∙◌}
use mathlib.Core.List.{List, ◌++◌}
use Prim.Native.Nat.{ℕ, suc, ◌*◌, ◌%◌, ◌^◌}
use lib.Bits.{bit_or}
use lib.ListN.{get_or}
use Rattle.laws.specs.Places.{tab, part, Each}
use Rattle.laws.specs.Bytes.{Bytes, Word, xor_l, words_of}
use Rattle.laws.specs.Rounds.{reversed, feistel}
use Rattle.laws.specs.Inverse.{Inverse}
use Rattle.laws.proofs.Words.{bytes_append, part_bytes}
use Rattle.laws.proofs.XorLists.{xor_l_bytes, xor_l_cancel_r}
use Rattle.laws.proofs.OddInverse.{or_one_odd, odd_product}
use Rattle.laws.proofs.Feistel.{feistel_keeps, feistel_undo}
use Rattle.laws.proofs.Inverse.{flip, and_then, at_each, xored_list}
use Rattle.laws.proofs.Parts.{left_half, right_half, joined_halves}
use Rattle.laws.proofs.OnWords.{on_words}
use Rattle.laws.proofs.Permuted.{permute_bytes, permuted}
use Rattle.e2_steps.specs.Steps.{inverse, times_words, over_words, times, over, from_bp, from_bp⁻, BP, BP⁻, from_brl, BRL, S, P}
use Rattle.e2.specs.Block.{F, first, rounds, last, cipher, reordered, round_key, encipher, decipher}
use Rattle.e2_undo.proofs.StayBytes.{S_bytes}

-- ---- ⊗ and ⊘ by any Y, on words and on bytes
pub words_undo : (y : List ℕ) → Inverse (Each (Word 32) 0 4) (λ x. times_words x y) (λ x. over_words x y)
unfolding inverse
words_undo y =
    let z : ℕ → ℕ = λ i. bit_or (get_or y i 0) 1 in
    at_each 0 4 (λ i x. x * z i % 2 ^ 32) (λ i x. x * inverse (z i) % 2 ^ 32) (λ i h. odd_product 31 (z i) (or_one_odd (get_or y i 0)))

pub times-over : (y : List ℕ) → Inverse (Bytes 16) (λ x. times x y) (λ x. over x y)
unfolding times over
times-over y = on_words 4 (λ x. times_words x (words_of 4 y)) (λ x. over_words x (words_of 4 y)) (words_undo (words_of 4 y))

-- ---- BP
pub BP_undo : Inverse (Bytes 16) BP BP⁻
unfolding BP BP⁻
BP_undo = permuted 16 from_bp from_bp⁻ refl refl tt tt

-- ---- the first step is undone by the last step with the same two keys
pub ends_undo : (a b : List ℕ) → Bytes 16 a → Inverse (Bytes 16) (λ m. BP (times (xor_l 16 m a) b)) (λ m. xor_l 16 (over (BP⁻ m) b) a)
ends_undo a b h = and_then (xored_list 8 16 a h) (and_then (times-over b) BP_undo)

-- ---- the rounds, with the keys in the other order
F_bytes : (r k : List ℕ) → Bytes 8 (F r k)
unfolding F BRL
F_bytes r k =
    let x : List ℕ = xor_l 8 (P (S (xor_l 8 r (part 0 0 8 k)))) (part 0 8 8 k) in
    permute_bytes 8 8 from_brl (S x) refl (S_bytes x)

keeps : (k l r : List ℕ) → Bytes 8 l → Bytes 8 r → Bytes 8 (xor_l 8 l (F r k))
keeps k l r hl hr = xor_l_bytes 8 l (F r k) hl (F_bytes r k)

cancels : (k l r : List ℕ) → Bytes 8 l → Bytes 8 r → xor_l 8 (xor_l 8 l (F r k)) (F r k) ≡ l
cancels k l r hl hr = xor_l_cancel_r 8 l (F r k) hl.long

abbrev network : List (List ℕ) → List ℕ → List ℕ
network ks m = let p = feistel F (xor_l 8) ks (part 0 0 8 m, part 0 8 8 m) in p.0 ++ p.1

network_bytes : (ks : List (List ℕ)) (m : List ℕ) → Bytes 16 m → Bytes 16 (network ks m)
network_bytes ks m h =
    let q : List ℕ × List ℕ = (part 0 0 8 m, part 0 8 8 m) in
    let p = feistel F (xor_l 8) ks q in
    let w = feistel_keeps F (xor_l 8) (Bytes 8) keeps cancels ks q (part_bytes 16 0 8 m h, part_bytes 16 8 8 m h) in
    bytes_append 8 8 p.0 p.1 w.0 w.1

network_undo : (ks : List (List ℕ)) (m : List ℕ) → Bytes 16 m → network (reversed ks) (network ks m) ≡ m
network_undo ks m h =
    let q : List ℕ × List ℕ = (part 0 0 8 m, part 0 8 8 m) in
    let hq : Bytes 8 q.0 × Bytes 8 q.1 = (part_bytes 16 0 8 m h, part_bytes 16 8 8 m h) in
    let p : List ℕ × List ℕ = feistel F (xor_l 8) ks q in
    let w = feistel_keeps F (xor_l 8) (Bytes 8) keeps cancels ks q hq in
    let again : List ℕ × List ℕ → List ℕ = λ z. (feistel F (xor_l 8) (reversed ks) z).0 ++ (feistel F (xor_l 8) (reversed ks) z).1 in
    ap₂ (λ (l r : List ℕ). again (l, r)) (left_half p.0 p.1 w.0.long) (right_half p.0 p.1 w.0.long w.1.long)
    ∙ ap (λ (z : List ℕ × List ℕ). z.0 ++ z.1) (feistel_undo F (xor_l 8) (Bytes 8) keeps cancels ks q hq)
    ∙ joined_halves m h.long

pub rounds_undo : (k : ℕ → List ℕ) → Inverse (Bytes 16) (rounds k) (rounds (reordered k))
unfolding rounds
rounds_undo k =
    let ks : List (List ℕ) = tab 12 (λ i. k (suc i)) in
    record {
      on = network_bytes ks;
      off = network_bytes (reversed ks);
      undo = network_undo ks;
      redo = network_undo (reversed ks);
    }

-- ---- the cipher
pub cipher_undo : (k : ℕ → List ℕ) → Bytes 16 (k 13) → Bytes 16 (k 16) → Inverse (Bytes 16) (cipher k) (cipher (reordered k))
unfolding cipher first last
cipher_undo k h13 h16 = and_then (ends_undo (k 13) (k 14) h13) (and_then (rounds_undo k) (flip (ends_undo (k 16) (k 15) h16)))

pub encipher_inverse : (keys : List ℕ) → Bytes 288 keys → Inverse (Bytes 16) (encipher keys) (decipher keys)
unfolding encipher decipher
encipher_inverse keys h = cipher_undo (round_key keys) (part_bytes 288 192 16 keys h) (part_bytes 288 240 16 keys h)
