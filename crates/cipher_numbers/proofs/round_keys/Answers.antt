use Rattle.cipher_numbers.proofs.Legal.{legal_length, number_last, number-1, number-2}
use Rattle.cipher_numbers.proofs.round_keys.Goals as goal

pub round_keys-requires : goal.round_keys-requires
round_keys-requires c = legal_length _ _ c.requires

pub returns-then-cipher-eq-HIEROCRYPT3 : goal.returns-then-cipher-eq-HIEROCRYPT3
returns-then-cipher-eq-HIEROCRYPT3 c = rw (number-1 _ c.if-cipher-eq-HIEROCRYPT3.true) c.round_keys.ensures

pub round_keys-requires-then-cipher-eq-E2 : goal.round_keys-requires-then-cipher-eq-E2
round_keys-requires-then-cipher-eq-E2 c = legal_length _ _ c.requires

pub returns-then-cipher-eq-E2 : goal.returns-then-cipher-eq-E2
returns-then-cipher-eq-E2 c = rw (number-2 _ c.if-cipher-eq-E2.true) c.round_keys-then-cipher-eq-E2.ensures

pub returns : goal.returns
returns c = rw (number_last _ _ c.requires c.if-cipher-eq-HIEROCRYPT3.false c.if-cipher-eq-E2.false) c.round_keys-2.ensures
