-- Some bytes of a list, as what is left of it after taking and dropping, and by their places.
use mathlib.Core.Path.{◌≡◌, ◌∙◌}
use mathlib.Core.List.{List}
use Prim.Native.Nat.{ℕ, ◌+◌, ◌≤◌}
use native.Mathlib.Omega.{arith}
use lib.ListN.{length, take, drop, length-drop}
use lib.Seq.{get_or-drop, get_or-take, length-take-le}
use Rattle.laws.specs.Places.{part}
use Rattle.laws.proofs.Places.{tab_is}

pub take_drop_is_part : (n at : ℕ) (xs : List ℕ) → at + n ≤ length xs → take n (drop at xs) ≡ part 0 at n xs
take_drop_is_part n at xs h =
    let d = length-drop at xs in
    tab_is n _ 0 (take n (drop at xs)) (length-take-le n (drop at xs) (omega arith))
    (λ j k. get_or-take n (drop at xs) j 0 k ∙ get_or-drop at xs j 0)
