use mathlib.Core.Path.{sym, ap}
use Rattle.hierocrypt3_keys.specs.Keys.{t_turn}
use Rattle.hierocrypt3_keys.proofs.KeyLengths.{t_turn_early}
use Rattle.hierocrypt3_keys.proofs.t_turn.Goals as goal

pub returns-then-length-eq32 : goal.returns-then-length-eq32
returns-then-length-eq32 c = ap t_turn (sym c.if-length-eq32.true)

pub returns : goal.returns
returns c = t_turn_early c.args.length.bytes c.args.length.legal c.if-length-eq32.false
