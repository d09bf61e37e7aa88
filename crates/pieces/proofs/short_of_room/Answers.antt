use Rattle.pieces.proofs.Tests.{short_in_blocks}
use Rattle.pieces.proofs.short_of_room.Goals as goal

pub returns : goal.returns
returns c = short_in_blocks c.args.count c.args.n c.args.room
