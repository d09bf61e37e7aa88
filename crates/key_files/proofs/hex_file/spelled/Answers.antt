use mathlib.Core.Path.{ap, ◌∙◌}
use Rattle.std.specs.Prelude.{Ok, Err}
use Rattle.key_files.proofs.Told.{told, place_within}
use Rattle.key_files.proofs.hex_file.spelled.Goals as goal

pub tell-requires : goal.tell-requires
tell-requires c =
    place_within c.args.text.now c.args.bytes.now c.read.new.out c.read.auto.out c.in-Err-BadCharacter.place c.read.result
    (c.in-Err-BadCharacter.is ∙ ap Err c.in-Err-BadCharacter.field-0-is) c.read.ensures

pub returns-in-Ok : goal.returns-in-Ok
returns-in-Ok c =
    told c.args.text.now c.args.bytes.now c.read.new.out c.read.auto.out (Ok c.in-Ok.n) c.read.result c.in-Ok.is
    c.read.ensures
