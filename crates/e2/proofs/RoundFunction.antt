-- F with a key that stands at n in a list.
use mathlib.Core.Path.{◌≡◌, ap, ap₂, ◌∙◌}
use mathlib.Core.List.{List}
use Prim.Native.Nat.{ℕ, ◌+◌}
use native.Mathlib.Nat.{add-zero}
use native.Mathlib.Omega.{arith}
use Rattle.laws.specs.Places.{part}
use Rattle.laws.specs.Bytes.{xor_l}
use Rattle.laws.proofs.Parts.{part-part}
use Rattle.e2_steps.specs.Steps.{BRL, S, P}
use Rattle.e2.specs.Block.{F}

pub F_at : (n : ℕ) (x xs : List ℕ) → F x (part 0 n 16 xs) ≡ BRL (S (xor_l 8 (P (S (xor_l 8 x (part 0 n 8 xs)))) (part 0 (n + 8) 8 xs)))
unfolding F
F_at n x xs =
    ap₂ (λ (l r : List ℕ). BRL (S (xor_l 8 (P (S (xor_l 8 x l))) r)))
    (part-part 0 0 8 n 16 xs (omega arith) ∙ ap (λ (k : ℕ). part 0 k 8 xs) (add-zero n))
    (part-part 0 8 8 n 16 xs (omega arith))
