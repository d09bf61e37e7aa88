use borrow.Author.Tests.{eq-eqb, ne_eqb}
use Rattle.cipher_numbers.specs.Ciphers.{is_direction}
use Rattle.cipher_numbers.proofs.is_direction.Goals as goal

pub returns-then-direction-eq-ENCIPHER : goal.returns-then-direction-eq-ENCIPHER
unfolding is_direction
returns-then-direction-eq-ENCIPHER c = simp (eq-eqb _ _ c.if-direction-eq-ENCIPHER.true)

pub returns : goal.returns
unfolding is_direction
returns c = simp (ne_eqb _ _ c.if-direction-eq-ENCIPHER.false)
