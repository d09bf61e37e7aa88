use mathlib.Core.Path.{◌≡◌, refl, ap, ◌∙◌}
use mathlib.Core.List.{List}
use Prim.Native.Nat.{ℕ}
use native.Mathlib.Omega.{arith}
use borrow.Author.Rules.{rules}
use lib.ListN.{length, set}
use Rattle.cmac_steps.proofs.Masked.{shift_next, shift_end}
use Rattle.cmac_steps.proofs.last.shl1.Goals as goal

pub loop-i-init : goal.loop-i-init
loop-i-init c = (omega arith, refl)

pub loop-i-preserved : goal.loop-i-preserved
loop-i-preserved c = let long : length c.args.x ≡ 16 = search rules in (
  omega arith,
  ap (λ (l : List ℕ). set l c.loop-i.i c.up.result) c.loop-i.invariant.1
      ∙ shift_next c.args.x long _ _ _ _ c.loop-i-test.true c.byte.ensures c.byte-in-loop-i.ensures c.up.ensures,
)

pub returns : goal.returns
returns c =
    let long : length c.args.x ≡ 16 = search rules in
    c.loop-i.invariant.1 ∙ shift_end c.args.x long c.loop-i.i (omega arith)
