-- `decipher_with`: the cipher with the keys in the other order.
use Rattle.e2.specs.Block.{decipher}
use Rattle.e2.proofs.decipher_with.Goals as goal

pub returns : goal.returns
unfolding decipher
returns c = c.cipher.ensures
