use mathlib.Core.Path.{◌≡◌, sym, ap, ◌∙◌}
use borrow.Author.Rules.{rules}
use native.Mathlib.Omega.{arith}
use Rattle.refusals.specs.Refusals as refusal
use Rattle.refusals.specs.Numbers.{number}
use Rattle.refusals.proofs.Numbers.{refused_answer}
use Rattle.card.proofs.Answers.{decided}
use Rattle.card.proofs.put.Goals as goal

pub returns-in_err-first : goal.returns-in_err-first
returns-in_err-first c =
    let d = decided c.args.card.now c.args.«record».now c.good-bad_card.ensures.answered c.good_record-bad_record.ensures c.goes_to-i.ensures c.first.ensures in
    let e : number c.from_residual.result ≡ number c.first.result = search rules in
    record { answered = e ∙ d.answered; left = d.kept (refused_answer c.in_err-first.was) }

pub part-block-requires : goal.part-block-requires
part-block-requires c =
    let d = decided c.args.card.now c.args.«record».now c.good-bad_card.ensures.answered c.good_record-bad_record.ensures c.goes_to-i.ensures c.first.ensures in
    let l = d.long (ap number c.in_ok-first.was) in
    omega arith

pub returns : goal.returns
returns c =
    let d = decided c.args.card.now c.args.«record».now c.good-bad_card.ensures.answered c.good_record-bad_record.ensures c.goes_to-i.ensures c.first.ensures in
    let z : number c.first.result ≡ refusal.done = ap number c.in_ok-first.was in
    record { answered = sym z ∙ d.answered; left = d.stored z c.part-block.ensures.taken c.store.ensures }
