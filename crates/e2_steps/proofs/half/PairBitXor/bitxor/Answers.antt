-- `Pair::bitxor`: word by word.
use mathlib.Core.List.{◌++◌}
use mathlib.Core.Path.{ap₂}
use borrow.Author.Rules.{rules}
use Rattle.words.proofs.OfWord.{bytes_xor}
use Rattle.e2_steps.proofs.half.PairBitXor.bitxor.Goals as goal

pub returns : goal.returns
returns c = let a = c.args in
    ap₂ ◌++◌ (bytes_xor a.self.a a.other.a (search rules) (search rules)) (bytes_xor a.self.b a.other.b (search rules) (search rules))
