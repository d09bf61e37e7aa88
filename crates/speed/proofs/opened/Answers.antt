use mathlib.Core.Path.{ap, ◌∙◌}
use Rattle.cipher.specs.Numbered.{SetUp}
use Rattle.stream.specs.Calls.{start}
use Rattle.stream.specs.Numbered.{Started}
use Rattle.speed.specs.Works.{begun}
use Rattle.speed.proofs.opened.Goals as goal

pub returns : goal.returns
unfolding begun
returns c =
    let a = c.args in
    ap (λ (r : Started). r.stream) c.start-started.ensures.returned
    ∙ ap (λ (u : SetUp). (start u.schedule a.direction a.first.now).stream) c.set_up-made.ensures.returned
