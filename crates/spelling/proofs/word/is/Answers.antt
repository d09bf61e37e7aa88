use Rattle.std.proofs.Common.{arith}
use Rattle.spelling.proofs.Words.{other_length}
use Rattle.spelling.proofs.word.is.Goals as goal

pub returns-then-word-name : goal.returns-then-word-name
returns-then-word-name c = other_length c.args.word.now c.args.name.now (omega arith)
