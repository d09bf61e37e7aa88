use Rattle.std.proofs.Common.{◌≡◌, ◌-◌}
use Rattle.card_table.specs.Table.{spell_header, is_header}
use Rattle.card_table.proofs.reading.is_header.Given as goal

abbrev pub invariant-loop-k : goal.invariant-loop-k
invariant-loop-k l = spell_header l.line l.k (6 - l.k) ≡ is_header l.line
