use mathlib.Core.Path.{◌≡◌, ◌∙◌}
use mathlib.Core.List.{[], ◌∷◌, ◌++◌}
use borrow.Author.Rules.{rules}
use lib.ListN.{length}
use Rattle.stream_record.proofs.Places.{in_sixteen}
use Rattle.stream_record.proofs.fields_of.Goals as goal

pub returns-then-s : goal.returns-then-s
returns-then-s c =
    let held_15 : length c.args.s.held ≡ 15 = search rules in
    let held_is : c.in_sixteen-held.result ≡ c.args.s.held ++ (0 ∷ []) = c.in_sixteen-held.ensures ∙ in_sixteen c.args.s.held held_15 in
    rw (held_is, c.if-s.true)

pub returns-else-s : goal.returns-else-s
returns-else-s c =
    let held_15 : length c.args.s.held ≡ 15 = search rules in
    let held_is : c.in_sixteen-held.result ≡ c.args.s.held ++ (0 ∷ []) = c.in_sixteen-held.ensures ∙ in_sixteen c.args.s.held held_15 in
    rw (held_is, c.if-s.false)
