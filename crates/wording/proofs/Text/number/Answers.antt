use Rattle.std.proofs.Common.{◌∙◌, arith}
use Rattle.wording.proofs.Adding.{adds_as}
use Rattle.wording.proofs.Digits.{fewest_decimal}
use Rattle.wording.proofs.Text.number.Goals as goal

pub returns : goal.returns
returns c = let e = c.decimal-k.ensures in
    adds_as (e.digits ∙ fewest_decimal c.decimal-k.result c.args.n (omega (arith, c.ranges.n)) e.len) c.words.ensures
