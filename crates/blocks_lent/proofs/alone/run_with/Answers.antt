use mathlib.Core.Path.{◌≡◌, sym, ap, ◌∙◌}
use mathlib.Core.List.{List, ◌++◌}
use Prim.Native.Nat.{ℕ, ◌+◌}
use borrow.Author.Rules.{rules}
use lib.ListN.{length}
use Rattle.cbc.proofs.Loop.{laid_next}
use Rattle.blocks_lent.proofs.Each.{given, given_next}
use Rattle.blocks_lent.proofs.alone.run_with.Goals as goal

pub loop-j-preserved : goal.loop-j-preserved
loop-j-preserved g c = let whole : length c.block-y.result ≡ 16 = search rules in
    let f = g.F.BlockFunction.of c.args.f.now c.args.keys.now in
    let w = c.args.input.now in
    let j = c.loop-j.j in
    let y = c.block-y.ensures ∙ ap f c.part-x.ensures.taken in
    let more = given_next f w j ∙ ap (λ (l : List ℕ). given f w j ++ l) (sym y) in
    laid_next _ c.loop-j.invariant (given f w (j + 1)) c.block-y.result _ more whole c.store.ensures
