use mathlib.Core.Path.{◌≡◌, ap, ◌∙◌}
use Prim.Native.Nat.{ℕ, ◌+◌, ◌-◌}
use native.Mathlib.Omega.{arith}
use lib.ListN.{get_or}
use Rattle.hierocrypt3_tables.specs.Constants.{G0, row}
use Rattle.hierocrypt3_tables.proofs.constants.constant.Goals as goal

pub returns : goal.returns
returns c = let args = c.args in
    let e : args.t ≡ args.t + 1 - 1 = omega arith in
    ap G0 (c.row_at.ensures.0 ∙ ap (λ (n : ℕ). get_or (row args.length.bytes) n 0) e)
