use Rattle.std.proofs.Common.{drop}
use Rattle.card_slots.specs.Card.{slots}
use Rattle.wording.proofs.Adding.{Left}
use Rattle.card_table.specs.Written.{lines_of}
use Rattle.card_table.proofs.writing.write.Given as goal

abbrev pub invariant-loop-i : goal.invariant-loop-i
invariant-loop-i l = Left (lines_of (slots l.card)) l.initial.out (lines_of (drop l.i (slots l.card))) l.out
