-- `Quad::pi1`: word by word.
use Rattle.noekeon_steps.proofs.Quad.pi1.Goals as goal

pub returns : goal.returns
returns c = λ i. record {
  p0 = c.args.self.p0;
  p1 = c.rotated.ensures i;
  p2 = c.rotated-2.ensures i;
  p3 = c.rotated-3.ensures i;
}
