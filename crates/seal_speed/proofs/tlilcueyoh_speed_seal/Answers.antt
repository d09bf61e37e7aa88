use mathlib.Core.Path.{sym, ap, ◌∙◌}
use mathlib.Core.List.{[], ◌∷◌}
use Rattle.refusals.specs.Numbers.{number}
use Rattle.refusals.proofs.Numbers.{not_done}
use Rattle.seal.specs.declared.Seal.{Seal}
use Rattle.seal_speed.specs.Works.{in_pieces}
use Rattle.seal_speed.proofs.Pieces.{written_behind, went_on, stopped}
use Rattle.seal_speed.proofs.tlilcueyoh_speed_seal.Goals as goal

pub returns-in-Err : goal.returns-in-Err
returns-in-Err c =
    let a = c.args in
    let is = ap number c.in-Err.is in
    record {
      worked =
          (λ j. record { answer = (c.number.ensures ∙ sym is) j; out = a.output.now })
          ∙ stopped c.opened-seal.result a.input.now [] a.output.now _ c.feed-fed.ensures (λ z. not_done c.in-Err.no (sym is ∙ z))
          ∙ ap (λ (s : Seal). in_pieces s (a.input.now ∷ []) a.output.now) c.opened-seal.ensures;
    }

pub returns : goal.returns
returns c =
    let a = c.args in
    record {
      worked =
          (λ j. record { answer = c.number-2.ensures j; out = c.write-written.new.out })
          ∙ written_behind c.feed-fed.result.next a.output.now _ _ c.write-written.ensures
          ∙ went_on c.opened-seal.result a.input.now [] a.output.now _ c.feed-fed.ensures (ap number c.in_default.is)
          ∙ ap (λ (s : Seal). in_pieces s (a.input.now ∷ []) a.output.now) c.opened-seal.ensures;
    }
