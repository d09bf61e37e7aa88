use Rattle.cipher_numbers.specs.Ciphers.{is_cipher}
use Rattle.cipher_numbers.proofs.Legal.{number-1, number-2, number-3, just_4}
use Rattle.cipher_numbers.proofs.is_cipher.Goals as goal

pub returns-then-cipher-eq-HIEROCRYPT3 : goal.returns-then-cipher-eq-HIEROCRYPT3
unfolding is_cipher
returns-then-cipher-eq-HIEROCRYPT3 c = rw (number-1 _ c.if-cipher-eq-HIEROCRYPT3.true)

pub returns-then-cipher-eq-E2 : goal.returns-then-cipher-eq-E2
unfolding is_cipher
returns-then-cipher-eq-E2 c = rw (number-2 _ c.if-cipher-eq-E2.true)

pub returns-then-cipher-eq-NOEKEON : goal.returns-then-cipher-eq-NOEKEON
unfolding is_cipher
returns-then-cipher-eq-NOEKEON c = rw (number-3 _ c.if-cipher-eq-NOEKEON.true)

pub returns : goal.returns
returns c = just_4 _ c.if-cipher-eq-HIEROCRYPT3.false c.if-cipher-eq-E2.false c.if-cipher-eq-NOEKEON.false
