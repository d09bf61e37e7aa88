use mathlib.Core.Path.{◌≡◌, sym, ap, ◌∙◌}
use mathlib.Core.List.{List}
use Prim.Native.Nat.{ℕ}
use native.Mathlib.Omega.{arith}
use borrow.Author.Rules.{rules}
use lib.ListN.{length}
use lib.Seq.{take_all}
use Rattle.laws.specs.Bytes.{xor_l}
use Rattle.runs.specs.Zeros.{zeros}
use Rattle.runs.proofs.Same.{same_length, same_by_xor}
use Rattle.cmac_steps.proofs.given.is_seal.Goals as goal

pub returns-then-given-ne16 : goal.returns-then-given-ne16
returns-then-given-ne16 c =
    let long : length c.args.seal ≡ 16 = search rules in
    sym (same_length c.args.given.now c.args.seal (λ e. c.if-given-ne16.true (e ∙ long)))

pub returns : goal.returns
returns c =
    let long : length c.args.seal ≡ 16 = search rules in
    let a = c.args in
    c.zero_from.ensures
    ∙ ap zeros (c.xor-differences.ensures ∙ ap (λ (l : List ℕ). xor_l 16 l a.seal) (c.part.ensures.taken ∙ take_all 16 a.given.now (omega arith)))
    ∙ same_by_xor 16 a.given.now a.seal c.if-given-ne16.false long
