-- What a table holds at a byte: the table's function of it.
use mathlib.Core.Path.{◌≡◌, ap, ◌∙◌}
use mathlib.Core.List.{List}
use Prim.Native.Nat.{ℕ}
use lib.ListN.{get_or}
use Rattle.laws.specs.Places.{tab}
use Rattle.laws.specs.Bytes.{Byte}
use Rattle.laws.proofs.Places.{get_or-tab}

module _ (f : ℕ → ℕ) (table : List ℕ) (is : table ≡ tab 256 f) (x : ℕ) (byte : Byte x) where
  pub entry : get_or table x 0 ≡ f x
  entry = ap (λ (l : List ℕ). get_or l x 0) is ∙ get_or-tab 256 f x 0 byte
