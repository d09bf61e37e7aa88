use mathlib.Core.Path.{sym, subst}
use Rattle.laws.specs.Bytes.{Byte}
use Rattle.laws.proofs.Known.{bytes_known}
use Rattle.hierocrypt3_steps.specs.code.Columns.{bit_row}
use Rattle.hierocrypt3_steps.proofs.RowsH.{bit_row_byte}
use Rattle.hierocrypt3_keys.proofs.operations.row_times.Goals as goal

pub overflow_cast-result : goal.overflow_cast-result
unfolding bit_row
overflow_cast-result c = let args = c.args in
    record { fits = subst Byte (sym c.bit_row.ensures) (bit_row_byte args.m args.x (bytes_known 4 args.x _ c.well_formed.1.0)) }

pub returns : goal.returns
unfolding bit_row
returns c = c.bit_row.ensures
