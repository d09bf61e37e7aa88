use mathlib.Core.Path.{◌≡◌}
use borrow.Author.Rules.{rules}
use lib.ListN.{length}
use Rattle.stream_record.proofs.Places.{in_fifteen}
use Rattle.stream_record.proofs.stream_from.Goals as goal

pub returns : goal.returns
returns c =
    let held_16 : length c.args.f.held ≡ 16 = search rules in
    rw (c.in_fifteen-held.ensures, in_fifteen _ held_16)
