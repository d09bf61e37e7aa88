use mathlib.Core.Path.{refl, sym, ap, ◌∙◌}
use mathlib.Core.List.{List}
use Prim.Native.Nat.{ℕ, ◌+◌}
use native.Mathlib.Omega.{arith}
use lib.ListN.{drop, drop_of_length-le}
use Rattle.refusals.specs.Numbers.{number}
use Rattle.refusals.proofs.Numbers.{not_done}
use Rattle.seal.specs.declared.Seal.{Seal}
use Rattle.seal_speed.specs.Works.{in_pieces, ones}
use Rattle.seal_speed.proofs.Pieces.{written_behind, went_on, stopped, ones_are}
use Rattle.seal_speed.proofs.tlilcueyoh_speed_seal_bytes.Goals as goal

pub loop-i-init : goal.loop-i-init
loop-i-init c = (omega arith, refl)

pub returns-in-Err : goal.returns-in-Err
returns-in-Err c =
    let a = c.args in
    let l = a.input.now in
    let i = c.loop-i.i in
    let is = ap number c.in-Err.is in
    record {
      worked =
          (λ j. record { answer = (c.number.ensures ∙ sym is) j; out = a.output.now })
          ∙ stopped c.loop-i.seal _ (ones (drop (i + 1) l)) a.output.now _ c.feed-fed.ensures (λ z. not_done c.in-Err.no (sym is ∙ z))
          ∙ ap (λ (ps : List (List ℕ)). in_pieces c.loop-i.seal ps a.output.now) (ones_are l i c.loop-i-test.true)
          ∙ c.loop-i.invariant.1 ∙ ap (λ (s : Seal). in_pieces s (ones l) a.output.now) c.opened-seal.ensures;
    }

pub loop-i-preserved : goal.loop-i-preserved
loop-i-preserved c =
    let a = c.args in
    let l = a.input.now in
    let i = c.loop-i.i in
    let t = c.loop-i-test.true in (
      omega arith,
      went_on c.loop-i.seal _ (ones (drop (i + 1) l)) a.output.now _ c.feed-fed.ensures (ap number c.in_default.is)
          ∙ ap (λ (ps : List (List ℕ)). in_pieces c.loop-i.seal ps a.output.now) (ones_are l i t) ∙ c.loop-i.invariant.1,
    )

pub returns : goal.returns
returns c =
    let a = c.args in
    let none = drop_of_length-le a.input.now c.loop-i-test.false in
    record {
      worked =
          (λ j. record { answer = c.number-2.ensures j; out = c.write-written.new.out })
          ∙ written_behind c.loop-i.seal a.output.now _ _ c.write-written.ensures
          ∙ sym (ap (λ (l : List ℕ). in_pieces c.loop-i.seal (ones l) a.output.now) none)
          ∙ c.loop-i.invariant.1 ∙ ap (λ (s : Seal). in_pieces s (ones a.input.now) a.output.now) c.opened-seal.ensures;
    }
