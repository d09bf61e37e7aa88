use mathlib.Core.Path.{ap, ◌∙◌}
use Rattle.cipher.specs.Numbered.{SetUp}
use Rattle.seal.specs.Calls.{start}
use Rattle.seal.specs.Numbered.{Started}
use Rattle.seal_speed.specs.Works.{begun}
use Rattle.seal_speed.proofs.opened.Goals as goal

pub returns : goal.returns
unfolding begun
returns c =
    ap (λ (r : Started). r.seal) c.start-started.ensures.returned
    ∙ ap (λ (u : SetUp). (start u.schedule).seal) c.set_up-made.ensures.returned
