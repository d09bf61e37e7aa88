use borrow.Author.Tests.{ne_eqb}
use mathlib.Core.Path.{◌≡◌, refl}
use mathlib.Core.Bool.{Bool, true, false}
use Rattle.laws.specs.Choice.{choose}
use Rattle.cipher_numbers.specs.Ciphers.{is_length, number}
use Rattle.cipher_numbers.proofs.Legal.{number-1, number-2, number-3, number-4}
use Rattle.cipher_numbers.proofs.is_length.Goals as goal

whether : (t : Bool) → t ≡ choose t true false
whether true = refl
whether false = refl

pub returns-then-cipher-eq-HIEROCRYPT3 : goal.returns-then-cipher-eq-HIEROCRYPT3
unfolding is_length
returns-then-cipher-eq-HIEROCRYPT3 c = rw (number-1 _ c.if-cipher-eq-HIEROCRYPT3.true) c.is_one_of_three.ensures

pub returns-then-cipher-eq-E2 : goal.returns-then-cipher-eq-E2
unfolding is_length
returns-then-cipher-eq-E2 c = rw (number-2 _ c.if-cipher-eq-E2.true) c.is_one_of_three-then-cipher-eq-E2.ensures

pub returns-then-cipher-eq-NOEKEON : goal.returns-then-cipher-eq-NOEKEON
unfolding is_length
returns-then-cipher-eq-NOEKEON c = rw (number-3 _ c.if-cipher-eq-NOEKEON.true) (whether _)

pub returns-then-cipher-eq-NOEKEON_EARLIER : goal.returns-then-cipher-eq-NOEKEON_EARLIER
unfolding is_length
returns-then-cipher-eq-NOEKEON_EARLIER c = rw (number-4 _ c.if-cipher-eq-NOEKEON_EARLIER.true) (whether _)

pub returns : goal.returns
unfolding is_length number
returns c = simp
    (ne_eqb _ _ c.if-cipher-eq-HIEROCRYPT3.false, ne_eqb _ _ c.if-cipher-eq-E2.false, ne_eqb _ _ c.if-cipher-eq-NOEKEON.false, ne_eqb _ _ c.if-cipher-eq-NOEKEON_EARLIER.false)
