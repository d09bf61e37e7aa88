-- What was read so far, as the code has it: a table's state and the card.
use Rattle.std.specs.Prelude.{List, ℕ}
use Rattle.card_table.specs.declared.reading.Table.{Table}
use Rattle.card_table.specs.Table.{Read, read_as}

abbrev pub read_of : Table → List ℕ → Read
read_of t card = read_as t.good t.records card
