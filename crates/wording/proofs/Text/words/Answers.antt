use Rattle.std.proofs.Common.{refl, arith, rules}
use Rattle.wording.specs.Laid.{behind}
use Rattle.wording.proofs.Laying.{cut_laid}
use Rattle.wording.proofs.Text.words.Goals as goal

pub returns : goal.returns
unfolding behind
returns c =
    let t = c.args.self.now in
    record {
      borrowed = refl;
      puts = record { leaves = cut_laid t.space.now t.len c.args.text.now c.min-n.result _ t.fits c.min-n.ensures (search rules); place = omega arith };
    }
