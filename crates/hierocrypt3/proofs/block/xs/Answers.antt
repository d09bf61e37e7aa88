use Rattle.hierocrypt3.proofs.Steps.{xs_columns}
use Rattle.hierocrypt3.proofs.block.xs.Goals as goal

pub returns : goal.returns
returns c = let args = c.args in
    xs_columns args.keys.now args.i args.x c.xs_column.ensures c.xs_column-2.ensures
    c.xs_column-3.ensures c.xs_column-4.ensures
