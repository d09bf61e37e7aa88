use Rattle.hierocrypt3.proofs.Steps.{key_columns}
use Rattle.hierocrypt3.proofs.block.add_key.Goals as goal

pub returns : goal.returns
returns c = let args = c.args in
    key_columns args.keys.now args.i args.x c.key_column.ensures c.key_column-2.ensures
    c.key_column-3.ensures c.key_column-4.ensures
