use mathlib.Core.Path.{ap, ◌∙◌}
use mathlib.Core.List.{List}
use Prim.Native.Nat.{ℕ, ◌+◌}
use Rattle.hierocrypt3_tables.specs.Operations.{mds_l}
use Rattle.hierocrypt3_steps.specs.code.Columns.{s_column}
use Rattle.hierocrypt3.specs.code.Columns.{key_column}
use Rattle.hierocrypt3.proofs.block.xs_column.Goals as goal

pub returns : goal.returns
returns c = let args = c.args in
    let key : List ℕ → List ℕ = key_column args.keys.now (args.at + 16) in
    c.keyed_s.ensures
    ∙ ap (λ (y : List ℕ). s_column (key y)) (c.mds_l_of_s-y.ensures ∙ ap (λ (y : List ℕ). mds_l (s_column y)) c.key_column.ensures)
