use Prim.Native.Nat.{◌+◌, ◌-◌}
use native.Mathlib.Omega.{arith}
use Rattle.hex_text.specs.Hex.{value}
use Rattle.hex_text.proofs.Ranges.{value_is}
use Rattle.hex_text.proofs.characters.value.Goals as goal

pub returns-in-48-to-57 : goal.returns-in-48-to-57
unfolding value
returns-in-48-to-57 c = (value_is (λ x. x - 48) 48 10 tt _ (omega arith) (omega arith), omega arith)

pub returns-in-65-to-70 : goal.returns-in-65-to-70
unfolding value
returns-in-65-to-70 c = (value_is (λ x. x - 65 + 10) 65 6 tt _ (omega arith) (omega arith), omega arith)

pub returns-in-97-to-102 : goal.returns-in-97-to-102
unfolding value
returns-in-97-to-102 c = (value_is (λ x. x - 97 + 10) 97 6 tt _ (omega arith) (omega arith), omega arith)

pub returns-in_default : goal.returns-in_default
unfolding value
returns-in_default c = (value_is (λ x. 16) 0 48 tt c.args.c (omega arith) (omega arith), omega arith)

pub returns-in_default-2 : goal.returns-in_default-2
unfolding value
returns-in_default-2 c = (value_is (λ x. 16) 58 7 tt c.args.c (omega arith) (omega arith), omega arith)

pub returns-in_default-3 : goal.returns-in_default-3
unfolding value
returns-in_default-3 c = (value_is (λ x. 16) 71 26 tt c.args.c (omega arith) (omega arith), omega arith)

pub returns-in_default-4 : goal.returns-in_default-4
unfolding value
returns-in_default-4 c = (value_is (λ x. 16) 103 153 tt c.args.c (omega arith) (omega arith), omega arith)
