-- Where a message is cut does not matter: what CBC makes of the whole blocks of a ++ p, from what it makes of those of a, over any block functions.
use mathlib.Core.Path.{◌≡◌, sym, ap, ap₂, ◌∙◌}
use mathlib.Core.List.{List, ◌++◌}
use Prim.Native.Nat.{ℕ, ◌+◌, ◌*◌, ◌/◌, ◌%◌}
use native.Mathlib.Omega.{arith}
use lib.ListN.{length, drop, length-append, length-drop}
use lib.Seq.{drop-append-le, drop-drop}
use Rattle.cbc.specs.Cbc.{out, chain, join, blocks, whole, rest, completed, answer}
use Rattle.cbc.proofs.Parts.{blocks_add, blocks-append, out-append, chain-append, join-append}

pub rest-length : (a : List ℕ) → length (rest a) ≡ length a % 16
rest-length a = length-drop (16 * (length a / 16)) a ∙ omega arith

pub cut_rest : (a p : List ℕ) → rest (a ++ p) ≡ drop (16 * completed (length a) (length p)) (rest a ++ p)
cut_rest a p =
    let l = length-append a p in
    let e : 16 * (length (a ++ p) / 16) ≡ 16 * (length a / 16) + 16 * completed (length a) (length p) = omega arith in
    ap (λ (k : ℕ). drop k (a ++ p)) e
    ∙ sym (drop-drop (16 * completed (length a) (length p)) (16 * (length a / 16)) (a ++ p))
    ∙ ap (drop (16 * completed (length a) (length p))) (drop-append-le (16 * (length a / 16)) a p (omega arith))

pub cut_whole : (a p : List ℕ) → whole (a ++ p) ≡ whole a ++ blocks (completed (length a) (length p)) (rest a ++ p)
cut_whole a p =
    let l = length-append a p in
    let e : length (a ++ p) / 16 ≡ length a / 16 + completed (length a) (length p) = omega arith in
    ap (λ (k : ℕ). blocks k (a ++ p)) e
    ∙ blocks_add (length a / 16) (completed (length a) (length p)) (a ++ p)
    ∙ ap₂ (λ (x y : List (List ℕ)). x ++ y) (blocks-append (length a / 16) a p (omega arith))
    (ap (blocks (completed (length a) (length p))) (drop-append-le (16 * (length a / 16)) a p (omega arith)))

module _ (E D : List ℕ → List ℕ) (d : ℕ) (c a p : List ℕ) where
  abbrev more : List (List ℕ)
  more = blocks (completed (length a) (length p)) (rest a ++ p)

  pub cut_answer : answer E D d c (a ++ p) ≡ answer E D d c a ++ join (out E D d (chain E d c (whole a)) more)
  unfolding answer
  cut_answer =
      ap (λ (bs : List (List ℕ)). join (out E D d c bs)) (cut_whole a p)
      ∙ ap join (out-append E D d c (whole a) more)
      ∙ join-append (out E D d c (whole a)) (out E D d (chain E d c (whole a)) more)

  pub cut_chain : chain E d c (whole (a ++ p)) ≡ chain E d (chain E d c (whole a)) more
  cut_chain = ap (chain E d c) (cut_whole a p) ∙ chain-append E D d c (whole a) more
