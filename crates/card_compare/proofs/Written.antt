-- The loop that writes the list's words: the first i of them stand at the front of the output, the rest is as it was.
use mathlib.Core.Path.{◌≡◌, refl, sym, ap, ap₂, ◌∙◌}
use mathlib.Core.List.{List, [], ◌∷◌, ◌++◌}
use Prim.Native.Nat.{ℕ, suc, ◌+◌, ◌*◌, ◌≤◌, ◌<◌}
use native.Mathlib.Omega.{arith}
use lib.ListN.{length, get_or, set, take, drop, length-append, length-drop}
use lib.Seq.{length-take-le, take_all, take-suc, take_at, drop_at, drop-drop, sets-eq}
use Rattle.laws.specs.Bytes.{bytes_of}
use Rattle.laws.proofs.BigEndian.{length-bytes_of, bytes_of-append}

-- four bytes set one by one
pub four : (l : List ℕ) (i a b c d : ℕ) → i + 4 ≤ length l
    → set (set (set (set l i a) (i + 1) b) (i + 2) c) (i + 3) d ≡ take i l ++ (a ∷ b ∷ c ∷ d ∷ []) ++ drop (i + 4) l
four l i a b c d h =
    let e1 : i + 1 ≡ suc i = omega arith in
    let e2 : i + 2 ≡ suc (suc i) = omega arith in
    let e3 : i + 3 ≡ suc (suc (suc i)) = omega arith in
    rw (e1, e2, e3) (sets-eq (a ∷ b ∷ c ∷ d ∷ []) l i h)

pub record Written (list o out : List ℕ) (i : ℕ) : Type 0 where
  pub inside : i ≤ length list
  pub stands : out ≡ bytes_of (take i list) ++ drop (i * 4) o

pub written_start : (list o : List ℕ) → Written list o o 0
written_start list o = record { inside = omega arith; stands = refl }

module _ {list o out : List ℕ} {i : ℕ} (w : Written list o out i) where
  front : length (bytes_of (take i list)) ≡ i * 4
  front = length-bytes_of (take i list) ∙ ap (λ (n : ℕ). n * 4) (length-take-le i list w.inside)

  pub written-length : length list * 4 ≤ length o → length out ≡ length o
  written-length h =
      let a = front in
      let b = length-drop (i * 4) o in
      let c = w.inside in
      ap length w.stands ∙ length-append (bytes_of (take i list)) (drop (i * 4) o) ∙ omega arith

  pub written_on : i < length list → {x : ℕ} → x ≡ get_or list i 0 → {out' : List ℕ} → out' ≡ take (i * 4) out ++ bytes_of (x ∷ []) ++ drop (i * 4 + 4) out
      → Written list o out' (i + 1)
  written_on h {x} v e =
      let f : (i + 1) * 4 ≡ i * 4 + 4 = omega arith in
      record {
        inside = omega arith;
        stands =
            e
            ∙ ap₂ (λ (p q : List ℕ). p ++ bytes_of (x ∷ []) ++ q) before behind
            ∙ ap (λ (p : List ℕ). p ++ drop (i * 4 + 4) o) (sym one_more)
            ∙ ap (λ (n : ℕ). bytes_of (take (i + 1) list) ++ drop n o) (sym f);
      }
    where
      one_more : bytes_of (take (i + 1) list) ≡ bytes_of (take i list) ++ bytes_of (x ∷ [])
      one_more =
          let s : i + 1 ≡ suc i = omega arith in
          ap bytes_of (ap (λ (n : ℕ). take n list) s ∙ take-suc list i 0 h)
          ∙ bytes_of-append (take i list) (get_or list i 0 ∷ [])
          ∙ ap (λ (n : ℕ). bytes_of (take i list) ++ bytes_of (n ∷ [])) (sym v)

      before : take (i * 4) out ≡ bytes_of (take i list)
      before = ap (take (i * 4)) w.stands ∙ take_at (bytes_of (take i list)) (drop (i * 4) o) (i * 4) front

      behind : drop (i * 4 + 4) out ≡ drop (i * 4 + 4) o
      behind =
          sym (drop-drop 4 (i * 4) out)
          ∙ ap (drop 4) (ap (drop (i * 4)) w.stands ∙ drop_at (bytes_of (take i list)) (drop (i * 4) o) (i * 4) front)
          ∙ drop-drop 4 (i * 4) o

  pub written_end : length list ≤ i → out ≡ bytes_of list ++ drop (length list * 4) o
  written_end h =
      let a = w.inside in
      let e : i ≡ length list = omega arith in
      w.stands ∙ ap₂ (λ (l : List ℕ) (n : ℕ). bytes_of l ++ drop (n * 4) o) (take_all i list h) e
