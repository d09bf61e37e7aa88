use mathlib.Core.Path.{ap, ◌∙◌}
use Rattle.record_words.specs.Record.{number_in, kind_of}
use Rattle.card_rules.specs.declared.Field.TheVariants.{Recipe, Segment, Target, Rate, Hold}
use Rattle.card_table.proofs.Records.{record_is}
use Rattle.card_table.proofs.reading.record_of.Goals as goal

pub returns : goal.returns
returns g c =
    let a = c.args in
    c.of.ensures
    ∙ record_is a.line.now c.number-recipe.result c.number-segment.result c.kind-kind.result c.number-target.result c.number-rate.result c.number-hold.result
    (c.number-recipe.ensures ∙ ap (number_in Recipe) c.text.ensures)
    (c.number-segment.ensures ∙ ap (number_in Segment) c.text-2.ensures)
    (c.kind-kind.ensures ∙ ap kind_of c.text-3.ensures)
    (c.number-target.ensures ∙ ap (number_in Target) c.text-4.ensures)
    (c.number-rate.ensures ∙ ap (number_in Rate) c.text-5.ensures)
    (c.number-hold.ensures ∙ ap (number_in Hold) c.text-6.ensures)
