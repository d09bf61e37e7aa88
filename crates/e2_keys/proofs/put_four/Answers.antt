-- `put_four`: one after the other.
use mathlib.Core.List.{List}
use mathlib.Core.Path.{ap, ◌∙◌}
use Prim.Native.Nat.{ℕ, ◌+◌}
use Rattle.e2_steps.specs.code.Layout.{pair_bytes}
use Rattle.e2_keys.specs.code.Layout.{apart}
use Rattle.e2_keys.proofs.put_four.Goals as goal

pub returns : goal.returns
returns c = let a = c.args in
    let put : ℕ → List ℕ → List ℕ → List ℕ = λ n xs r. apart r n xs in
    c.put-4.ensures
    ∙ ap (put (a.at + 17) (pair_bytes a.l.x3)) (c.put-3.ensures
    ∙ ap (put (a.at + 1) (pair_bytes a.l.x2)) (c.put-2.ensures ∙ ap (put (a.at + 16) (pair_bytes a.l.x1)) c.put.ensures))
