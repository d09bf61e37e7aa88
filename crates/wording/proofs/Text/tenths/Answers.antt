use Rattle.std.proofs.Common.{◌/◌, ◌%◌}
use lib.Seq.{append_snoc}
use Rattle.wording.specs.Numbers.{decimal, in_tenths}
use Rattle.wording.proofs.Adding.{adds_as, adds_on}
use Rattle.wording.proofs.Text.tenths.Goals as goal

pub returns : goal.returns
unfolding in_tenths
returns c = let n = c.args.n in
    adds_as (append_snoc (decimal (n / 10)) 46 (decimal (n % 10)))
    (adds_on (adds_on c.number.ensures c.words.ensures) c.number-2.ensures)
