use mathlib.Core.Path.{ap, ◌∙◌}
use mathlib.Core.List.{List}
use Prim.Native.Nat.{ℕ}
use Rattle.hierocrypt3_tables.specs.Operations.{mds_l⁻}
use Rattle.hierocrypt3_steps.specs.code.Columns.{s_column⁻}
use Rattle.hierocrypt3.specs.code.Columns.{key_column}
use Rattle.hierocrypt3.proofs.block.xs_column_inverse.Goals as goal

pub returns : goal.returns
returns c = let args = c.args in
    let key : List ℕ → List ℕ = key_column args.keys.now args.at in
    c.keyed_s_inverse-2.ensures
    ∙ ap (λ (y : List ℕ). key (s_column⁻ y)) (c.mds_l_inverse-y.ensures ∙ ap mds_l⁻ c.keyed_s_inverse.ensures)
