use mathlib.Core.Path.{ap, ◌∙◌}
use Rattle.hierocrypt3.specs.code.Columns.{key_column}
use Rattle.hierocrypt3.proofs.block.keyed_s_inverse.Goals as goal

pub returns : goal.returns
returns c = let args = c.args in
    c.key_column.ensures ∙ ap (key_column args.keys.now args.at) c.s_column_inverse.ensures
