-- `quad::inverse`: four low bits are right at the start, and each step doubles their number.
use mathlib.Core.Path.{◌≡◌, sym, subst}
use Prim.Native.Nat.{ℕ, ◌%◌}
use lib.Bits.{bit_xor}
use lib.Dec.{lit≤}
use borrow.Author.Rules.{rules}
use Rattle.laws.proofs.OddInverse.{odd_inverse_unique, even_inverse}
use Rattle.laws.proofs.Doubling.{Right, start_right, doubles_word}
use Rattle.e2_steps.specs.Steps.{inverse}
use Rattle.e2_steps.proofs.quad.inverse.Goals as goal

pub returns-then-z-eq0 : goal.returns-then-z-eq0
unfolding inverse
returns-then-z-eq0 c = sym (even_inverse 31 c.args.z c.if-z-eq0.true (lit≤ tt))

pub returns : goal.returns
unfolding inverse
returns c = let z = c.args.z in
    let odd : z % 2 ≡ 1 = search rules in
    let right4 = subst (λ (p : ℕ). Right 4 z (bit_xor p 2)) (sym c.product-right4.ensures) (start_right 28 z odd) in
    let right8 = subst (Right 8 z) (sym c.doubled-right8.ensures) (doubles_word 24 4 z _ right4) in
    let right16 = subst (Right 16 z) (sym c.doubled-right16.ensures) (doubles_word 16 8 z _ right8) in
    let right32 = subst (Right 32 z) (sym c.doubled.ensures) (doubles_word 0 16 z _ right16) in
    odd_inverse_unique 31 z odd _ (search rules) right32
