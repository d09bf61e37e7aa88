-- `encipher_with`: the cipher with the keys in their own order.
use Rattle.e2.specs.Block.{encipher}
use Rattle.e2.proofs.encipher_with.Goals as goal

pub returns : goal.returns
unfolding encipher
returns c = c.cipher.ensures
