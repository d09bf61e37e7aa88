use mathlib.Core.Path.{sym, ap, ◌∙◌}
use Prim.Native.Nat.{ℕ, ◌+◌, ◌-◌, ◌/◌}
use Rattle.cmac.specs.Cmac.{pushed}
use Rattle.cmac.proofs.Cut.{pushed_held, pushed_none}
use Rattle.cmac_steps.proofs.count.pushed.Goals as goal

pub returns-then-n-eq0 : goal.returns-then-n-eq0
returns-then-n-eq0 c = sym (ap (pushed c.args.count) c.if-n-eq0.true ∙ pushed_none c.args.count)

pub returns : goal.returns
returns c =
    let a = c.args in
    ap (λ (k : ℕ). (k + a.n - 1) / 16) c.held_number.ensures.0 ∙ sym (pushed_held a.count a.n)
