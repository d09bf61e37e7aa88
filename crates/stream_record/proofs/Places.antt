-- A stream's fifteen places for held bytes, and a record's sixteen.
use mathlib.Core.Path.{◌≡◌, sym, ap}
use mathlib.Core.List.{List, [], ◌∷◌, ◌++◌}
use Prim.Native.Nat.{ℕ}
use lib.ListN.{length, take}
use Rattle.laws.specs.Places.{part}
use Rattle.laws.proofs.Places.{tab_self}

pub in_sixteen : (h : List ℕ) → length h ≡ 15 → part 0 0 15 h ++ (0 ∷ []) ≡ h ++ (0 ∷ [])
in_sixteen h l = ap (λ (x : List ℕ). x ++ (0 ∷ [])) (sym (tab_self 15 0 h l))

pub in_fifteen : (h : List ℕ) → length h ≡ 16 → part 0 0 15 h ≡ take 15 h
in_fifteen h l = sym (ap (take 15) (tab_self 16 0 h l))
