use Rattle.std.proofs.Common.{refl, arith}
use Rattle.wording.proofs.Laying.{puts_byte, puts_no_byte}
use Rattle.wording.proofs.Text.byte.Goals as goal

pub returns-then-self : goal.returns-then-self
returns-then-self c = let t = c.args.self.now in
    record { borrowed = refl; puts = puts_byte t.space.now t.len c.args.c c.if-self.true }

pub returns-else-self : goal.returns-else-self
returns-else-self c =
    let t = c.args.self.now in
    let fits = t.fits in
    record { borrowed = refl; puts = puts_no_byte t.space.now t.len c.args.c (omega (arith, c.if-self.false)) }
