use mathlib.Core.Path.{◌≡◌, sym}
use native.Mathlib.Omega.{arith}
use borrow.Author.Rules.{rules}
use lib.ListN.{length, get_or-eq_default}
use Rattle.cmac_steps.proofs.last.byte.Goals as goal

pub returns-else-i-lt16 : goal.returns-else-i-lt16
returns-else-i-lt16 c =
    let long : length c.args.x ≡ 16 = search rules in
    let l = long in sym (get_or-eq_default c.args.x 0 (omega arith))
