-- `load`: word by word.
use Rattle.noekeon.proofs.load.Goals as goal

pub returns : goal.returns
returns c = λ i. record {
  p0 = c.word_at.ensures.is i;
  p1 = c.word_at-2.ensures.is i;
  p2 = c.word_at-3.ensures.is i;
  p3 = c.word_at-4.ensures.is i;
}
