-- The first i values of a list and zeros behind them, n in all, are its values by their places where it has no more than i or they fill the n.
use mathlib.Core.Path.{◌≡◌, sym, ap, ◌∙◌}
use mathlib.Core.List.{List, ◌++◌}
use Prim.Native.Nat.{ℕ, ◌+◌, ◌-◌, ◌≤◌, ◌<◌}
use native.Mathlib.Decide.{dec_lt}
use native.Mathlib.Omega.{arith}
use lib.ListN.{length, get_or, take, replicate, length-append, length-replicate, get_or-replicate, get_or-append, get_or-eq_default}
use lib.Seq.{length-take-le, get_or-take, get_or-append-add}
use Rattle.laws.specs.Places.{tab}
use Rattle.laws.proofs.Places.{tab_is}

pub padded : (n : ℕ) (xs : List ℕ) (i : ℕ) → i ≤ n → i ≤ length xs → (i < n → i ≡ length xs)
    → take i xs ++ replicate (n - i) 0 ≡ tab n (λ j. get_or xs j 0)
padded n xs i hn hl full =
    tab_is n (λ j. get_or xs j 0) 0 (take i xs ++ replicate (n - i) 0)
    (length-append (take i xs) (replicate (n - i) 0) ∙ simp (long, length-replicate) (omega arith))
    (λ j h. by_place j h (dec_lt j i))
  where
    long : length (take i xs) ≡ i
    long = length-take-le i xs hl

    by_place : (j : ℕ) → j < n → Dec (j < i) → get_or (take i xs ++ replicate (n - i) 0) j 0 ≡ get_or xs j 0
    by_place j h (yes l) = get_or-append (take i xs) (replicate (n - i) 0) 0 j (rw long l) ∙ get_or-take i xs j 0 l
    by_place j h (no l) =
        let e : j ≡ length (take i xs) + (j - i) = rw long (omega arith) in
        let all : i ≡ length xs = full (omega arith) in
        ap (λ (k : ℕ). get_or (take i xs ++ replicate (n - i) 0) k 0) e
        ∙ get_or-append-add (take i xs) (replicate (n - i) 0) (j - i) 0
        ∙ get_or-replicate (n - i) (j - i) 0 0 (omega arith)
        ∙ sym (get_or-eq_default xs 0 (omega arith))
