-- `Pair::load`: two words of four bytes each.
use Rattle.words.proofs.OfWord.{two_from}
use Rattle.e2_steps.proofs.half.Pair.load.Goals as goal

pub returns : goal.returns
returns c = let a = c.args in
    two_from a.bytes.now a.at _ _ c.word_at.ensures c.word_at-2.ensures
