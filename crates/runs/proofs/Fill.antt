-- A list filled from the front, and tails of zeros: the loops of `bytes`.
use mathlib.Core.Path.{◌≡◌, sym, ap, ◌∙◌}
use mathlib.Core.Bool.{true}
use mathlib.Core.List.{List, [], ◌∷◌, ◌++◌}
use Prim.Native.Nat.{ℕ, suc, ◌+◌, ◌-◌, ◌<◌}
use native.Mathlib.Omega.{arith}
use native.Mathlib.Numerals.{add-one}
use lib.ListN.{length, get_or, set, take, replicate}
use lib.Seq.{set_at, append_snoc, take-suc, length-take-le}
use Rattle.runs.specs.Zeros.{zeros}
use Rattle.runs.proofs.All.{all_are, all_replicate}

-- ---- zeros
pub zeros_are : (l : List ℕ) → zeros l ≡ true → l ≡ replicate (length l) 0
zeros_are = all_are 0

pub zeros-replicate : (n : ℕ) → zeros (replicate n 0) ≡ true
zeros-replicate = all_replicate 0

-- ---- the first i of s, zeros behind, and one more
pub fill_next : (n : ℕ) (s : List ℕ) (i v : ℕ) → i < n → i < length s → v ≡ get_or s i 0
    → set (take i s ++ replicate (n - i) 0) i v ≡ take (i + 1) s ++ replicate (n - (i + 1)) 0
fill_next n s i v hn hs e =
    let z : n - i ≡ suc (n - (i + 1)) = omega arith in
    let e2 : take i s ++ (v ∷ []) ≡ take (i + 1) s = rw (add-one, take-suc s i 0, e) in
    ap (λ (k : ℕ). set (take i s ++ replicate k 0) i v) z
    ∙ set_at (take i s) 0 (replicate (n - (i + 1)) 0) v i (length-take-le i s (omega arith))
    ∙ sym (append_snoc (take i s) v (replicate (n - (i + 1)) 0))
    ∙ ap (λ (r : List ℕ). r ++ replicate (n - (i + 1)) 0) e2
