use borrow.Author.Tests.{eq-eqb, ne_eqb}
use mathlib.Core.Bool.{Bool, true, false}
use mathlib.Core.Path.{◌≡◌, refl}
use Rattle.laws.specs.Choice.{choose}
use Rattle.cipher_numbers.proofs.is_one_of_three.Goals as goal

whether : (t : Bool) → t ≡ choose t true false
whether true = refl
whether false = refl

pub returns-then-len-eq16 : goal.returns-then-len-eq16
returns-then-len-eq16 c = simp (eq-eqb _ _ c.if-len-eq16.true)

pub returns-then-len-eq24 : goal.returns-then-len-eq24
returns-then-len-eq24 c = simp (ne_eqb _ _ c.if-len-eq16.false, eq-eqb _ _ c.if-len-eq24.true)

pub returns : goal.returns
returns c = simp (ne_eqb _ _ c.if-len-eq16.false, ne_eqb _ _ c.if-len-eq24.false) (whether _)
