-- How the code's struct holds a block by its two halves, and its enum the order of the keys.
use Rattle.std.specs.Prelude.{Bool, true, false, List, ◌++◌, ℕ}
use Rattle.e2_steps.specs.code.Layout.{pair_bytes}
use Rattle.e2.specs.declared.block.Halves.{Halves}
use Rattle.e2.specs.declared.block.Order.{Order}
use Rattle.e2.specs.declared.block.Order.TheVariants.{Enciphering, Deciphering}

abbrev pub block_bytes : Halves → List ℕ
block_bytes h = pair_bytes h.l ++ pair_bytes h.r

-- whether the keys are in the order of deciphering
abbrev pub is_back : Order → Bool
is_back Enciphering = false
is_back Deciphering = true
