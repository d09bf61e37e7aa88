-- What a function of the code knows of an array of bytes that it takes by value: how many there are, and that each is a byte; and of an array of such arrays.
use mathlib.Core.Path.{sym, subst}
use mathlib.Core.List.{List, [], ◌∷◌}
use Prim.Native.Nat.{ℕ, zero, suc, ◌<◌}
use native.Mathlib.Nat.{le_of_suc-le-suc, not-suc-le-zero}
use lib.ListN.{length, get_or}
use mir.Syntax.{w8}
use mir.Val.{Val}
use denote.Laws.{Is}
use denote.Shadow.{shadow}
use denote.Plain.{UInt}
use denote.Array.{Array, each}
use borrow.Author.Rules.{elem_Fits}
use Rattle.laws.specs.Places.{Each}
use Rattle.laws.specs.Bytes.{Bytes}

pub bytes_known : (n : ℕ) (xs : List ℕ) (vs : List Val) → Is (Array (UInt w8) n) xs vs → Bytes n xs
bytes_known n xs vs p = record { long = p.1.0.1; each = λ j h. (elem_Fits w8 w8 xs p.0 j p.1.1 tt).fits }

arrays_each : (n : ℕ) (xs : List (List ℕ)) (us : List Val) → shadow (each (List ℕ) (Array (UInt w8) n).own_val xs us)
    → (j : ℕ) → j < length xs → Bytes n (get_or xs j [])
arrays_each n [] us p j h = absurd (not-suc-le-zero h)
arrays_each n (x ∷ xs) [] p j h = absurd p
arrays_each n (x ∷ xs) (u ∷ us) p zero h = bytes_known n x (u ∷ []) p.0
arrays_each n (x ∷ xs) (u ∷ us) p (suc j) h = arrays_each n xs us p.1 j (le_of_suc-le-suc h)

pub arrays_known : (m n : ℕ) (b : List (List ℕ)) (vs : List Val) → Is (Array (Array (UInt w8) n) m) b vs → Each (Bytes n) [] m b
arrays_known m n b vs p =
    record { long = p.1.0.1; each = λ j h. arrays_each n b p.0 p.1.1 j (subst (λ (k : ℕ). j < k) (sym p.1.0.1) h) }
