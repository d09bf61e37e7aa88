use Rattle.std.specs.Prelude.{Ok}
use Rattle.key_files.proofs.Told.{told}
use Rattle.seal_files.proofs.given.spelled.Goals as goal

pub returns-in-Ok : goal.returns-in-Ok
returns-in-Ok c =
    (told c.args.word.now c.args.bytes.now c.read.new.out c.read.auto.out (Ok c.in-Ok.n) c.read.result
    c.in-Ok.is c.read.ensures).counts
