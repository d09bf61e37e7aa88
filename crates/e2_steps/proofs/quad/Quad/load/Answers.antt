-- `Quad::load`: four words of four bytes each.
use Rattle.words.proofs.OfWord.{four_from}
use Rattle.e2_steps.proofs.quad.Quad.load.Goals as goal

pub returns : goal.returns
returns c = let a = c.args in
    four_from a.bytes.now a.at _ _ _ _ c.word_at.ensures c.word_at-2.ensures
    c.word_at-3.ensures c.word_at-4.ensures
