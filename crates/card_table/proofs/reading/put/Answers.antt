use mathlib.Core.Path.{sym, ap, ap₂, ◌∙◌}
use mathlib.Core.List.{List}
use Prim.Native.Nat.{ℕ, ◌+◌}
use native.Mathlib.Omega.{arith}
use lib.ListN.{length}
use Rattle.refusals.proofs.Numbers.{erred, not_erred}
use Rattle.card.specs.Put.{put_answer, put_card}
use Rattle.card_table.specs.Table.{read_as}
use Rattle.card_table.specs.code.State.{read_of}
use Rattle.card_table.specs.declared.reading.Table.{Table}
use Rattle.card_table.proofs.Records.{no_part, no_room_lem, record_put}
use Rattle.card_table.proofs.reading.put.Goals as goal

pub returns-then-is_err : goal.returns-then-is_err
returns-then-is_err g c =
    let a = c.args in
    let f = a.f in
    let h = ap length c.find.ensures.handed.holds in
    let s = c.laid.ensures.value in
    ap₂ (λ (t : Table) (card : List ℕ). read_of t card) c.wrong-then-is_err.ensures
    (c.put.ensures.left ∙ ap (put_card a.card.now) s)
    ∙ no_room_lem (read_of a.before a.card.now) f
    (no_part a.card.now (f.recipe, f.segment) (omega (arith, h)))
    (λ z. erred c.put.result (sym c.is_err.ensures.value ∙ c.if-is_err.true) (c.put.ensures.answered ∙ ap (put_answer a.card.now) s ∙ z))

pub returns : goal.returns
returns g c =
    let a = c.args in
    let f = a.f in
    let h = ap length c.find.ensures.handed.holds in
    let s = c.laid.ensures.value in
    ap (read_as a.before.good (a.before.records + 1)) (c.put.ensures.left ∙ ap (put_card a.card.now) s)
    ∙ record_put (read_of a.before a.card.now) f
    (no_part a.card.now (f.recipe, f.segment) (omega (arith, h)))
    (sym (c.put.ensures.answered ∙ ap (put_answer a.card.now) s) ∙ not_erred c.put.result (sym c.is_err.ensures.value ∙ c.if-is_err.false))
