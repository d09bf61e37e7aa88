use mathlib.Core.Path.{◌≡◌, ap, ◌∙◌}
use Prim.Native.Nat.{ℕ, ◌+◌, ◌-◌}
use native.Mathlib.Omega.{arith}
use lib.ListN.{take, drop}
use Rattle.runs.proofs.Parts.{take_drop_is_part}
use Rattle.runs.proofs.part.Goals as goal

pub returns-clause-placed : goal.returns-clause-placed
returns-clause-placed g c =
    let n = g.row.N in
    let at = c.args.at in
    let bytes = c.args.bytes.now in
    let width : at + n - at ≡ n = omega arith in
    c.copy_from_slice.ensures.after
    ∙ ap (λ (m : ℕ). take m (drop at bytes)) width
    ∙ take_drop_is_part n at bytes c.requires
