use mathlib.Core.Path.{sym, ap, ◌∙◌}
use mathlib.Core.List.{List}
use Prim.Native.Nat.{ℕ}
use native.Mathlib.Omega.{arith}
use Rattle.laws.specs.Bytes.{xor_l}
use Rattle.laws.proofs.Known.{bytes_known}
use Rattle.cmac.specs.Cmac.{R128}
use Rattle.cmac.proofs.Shift.{doubled_low, doubled_high}
use Rattle.cmac_steps.proofs.last.doubled.Goals as goal

pub returns-then-x-lt128 : goal.returns-then-x-lt128
returns-then-x-lt128 c = c.shl1-y.ensures ∙ sym (doubled_low c.args.x c.if-x-lt128.true)

pub returns : goal.returns
returns c =
    let x = c.args.x in
    let b = (bytes_known 16 x _ c.well_formed.0).each 0 (omega arith) in
    c.xor.ensures ∙ ap (λ (l : List ℕ). xor_l 16 l R128) c.shl1-y.ensures ∙ sym (doubled_high x c.if-x-lt128.false b)
