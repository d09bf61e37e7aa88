use mathlib.Core.Path.{ap, ◌∙◌}
use lib.ListN.{length}
use Rattle.stream.specs.Calls.{feed, feed_out}
use Rattle.stream.specs.declared.Stream.{Stream}
use Rattle.stream.specs.Numbered.{Fed}
use Rattle.speed.proofs.tlilcueyoh_speed_cbc.Goals as goal

pub returns : goal.returns
returns c =
    let a = c.args in
    let x = a.input.now in
    let o = a.output.now in
    record {
      answered = c.number.ensures ∙ ap (λ (r : Fed). r.answer) c.feed-fed.ensures.returned ∙ ap (λ (s : Stream). (feed s x (length o)).answer) c.opened-stream.ensures;
      left = c.feed-fed.ensures.left ∙ ap (λ (s : Stream). feed_out s x o) c.opened-stream.ensures;
    }
