use mathlib.Core.Path.{◌≡◌, ap, ap₂, ◌∙◌, subst}
use Prim.Native.Nat.{ℕ, ◌+◌, ◌-◌, ◌*◌, ◌/◌, ◌%◌, ◌^◌, ◌<◌}
use native.Mathlib.Omega.{arith}
use lib.Bits.{bit_or}
use Rattle.laws.proofs.Turn.{turn_code}
use borrow.Author.Rules.{rules}
use Rattle.words.proofs.word.rotated.Goals as goal

pub returns : goal.returns
returns c =
    let n = c.args.n in
    let x = c.args.x in
    let left : n % 32 ≡ n = omega arith in
    let right : (32 - n % 32) % 32 ≡ 32 - n = omega arith in
    let width : 32 ≡ 32 - n + n = omega arith in
    let small : x < 2 ^ 32 = search rules in
    c.rotate_left.ensures
    ∙ ap₂ (λ (p q : ℕ). bit_or (x * 2 ^ p % 2 ^ 32) (x / 2 ^ q)) left right
    ∙ ap (λ (m : ℕ). bit_or (x * 2 ^ n % 2 ^ m) (x / 2 ^ (32 - n))) width
    ∙ turn_code (32 - n) n x (subst (λ (m : ℕ). x < 2 ^ m) width small)
