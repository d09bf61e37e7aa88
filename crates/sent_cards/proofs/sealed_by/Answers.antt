use mathlib.Core.Path.{◌≡◌, refl, sym, ap, ◌∙◌}
use mathlib.Core.Bool.{Bool}
use mathlib.Core.List.{List}
use Prim.Native.Nat.{ℕ}
use native.Mathlib.Omega.{arith}
use Rattle.cipher.specs.Calls.{set_up}
use Rattle.cipher.specs.Promises.{SetsUp}
use Rattle.cipher.specs.Numbered.{SetUp, in_numbers}
use Rattle.sent_cards.specs.Sent.{sealed, sealed_by}
use Rattle.sent_cards.proofs.First.{first_here, first_later}
use Rattle.sent_cards.proofs.sealed_by.Goals as goal

abbrev isSealed : (key file : List ℕ) → ℕ → Bool
isSealed key file c = sealed (set_up c key).schedule file

-- what the calls said of a cipher
said : (key file : List ℕ) (c : ℕ) (made : SetUp) (b : Bool) → SetsUp c key made → b ≡ sealed made.schedule file → isSealed key file c ≡ b
said key file c made b m e = ap (λ (r : SetUp). sealed r.schedule file) (sym m.returned) ∙ sym e

pub loop-number-init : goal.loop-number-init
unfolding sealed_by
loop-number-init c = (omega arith, omega arith, refl)

pub returns-then-is_sealed : goal.returns-then-is_sealed
returns-then-is_sealed c =
    let a = c.args in
    first_here (isSealed a.key.now a.file.now) c.loop-number.number 10 (omega (arith, c.loop-number-test.true))
    (said a.key.now a.file.now c.loop-number.number (in_numbers c.set_up-made.result) c.is_sealed.result c.set_up-made.ensures c.is_sealed.ensures
    ∙ c.if-is_sealed.true)
    ∙ sym c.loop-number.invariant.2

pub loop-number-preserved : goal.loop-number-preserved
loop-number-preserved c =
    let a = c.args in (
      omega arith,
      omega arith,
      c.loop-number.invariant.2
          ∙ first_later (isSealed a.key.now a.file.now) c.loop-number.number 10 (omega (arith, c.loop-number-test.true))
          (said a.key.now a.file.now c.loop-number.number (in_numbers c.set_up-made.result) c.is_sealed.result c.set_up-made.ensures c.is_sealed.ensures
          ∙ c.if-is_sealed.false),
    )
