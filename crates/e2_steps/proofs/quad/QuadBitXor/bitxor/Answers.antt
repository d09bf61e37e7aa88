-- `Quad::bitxor`: word by word.
use mathlib.Core.List.{◌++◌}
use mathlib.Core.Path.{ap₂}
use borrow.Author.Rules.{rules}
use Rattle.words.proofs.OfWord.{bytes_xor}
use Rattle.e2_steps.proofs.quad.QuadBitXor.bitxor.Goals as goal

pub returns : goal.returns
returns c = let s = c.args in
    ap₂ ◌++◌ (bytes_xor s.self.a s.other.a (search rules) (search rules))
    (ap₂ ◌++◌ (bytes_xor s.self.b s.other.b (search rules) (search rules))
    (ap₂ ◌++◌ (bytes_xor s.self.c s.other.c (search rules) (search rules)) (bytes_xor s.self.d s.other.d (search rules) (search rules))))
