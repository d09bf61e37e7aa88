use mathlib.Core.Path.{refl, sym, ap, ◌∙◌}
use mathlib.Core.List.{List}
use Prim.Native.Nat.{ℕ}
use native.Mathlib.Omega.{arith}
use lib.ListN.{drop_of_length-le}
use Rattle.refusals.specs.Numbers.{number}
use Rattle.refusals.proofs.Numbers.{not_done}
use Rattle.stream.specs.declared.Stream.{Stream}
use Rattle.speed.specs.Works.{by_bytes}
use Rattle.speed.proofs.Bytes.{went_on, stopped}
use Rattle.speed.proofs.tlilcueyoh_speed_bytes.Goals as goal

pub loop-i-init : goal.loop-i-init
loop-i-init c = (omega arith, refl, refl)

pub shape_of-output-in-Err : goal.shape_of-output-in-Err
shape_of-output-in-Err c = c.feed-fed.auto.out ∙ c.loop-i.invariant.1

pub returns-in-Err : goal.returns-in-Err
returns-in-Err c =
    let a = c.args in
    let is = ap number c.in-Err.is in
    let s = stopped c.loop-i.stream a.input.now c.loop-i.output c.loop-i.i c.loop-i-test.true _ _ c.feed-fed.ensures (λ z. not_done c.in-Err.no (sym is ∙ z)) in
    record {
      worked = (λ j. record { answer = (c.number.ensures ∙ sym is) j; out = c.feed-fed.new.out }) ∙ s ∙ c.loop-i.invariant.2 ∙ ap (λ (x : Stream). by_bytes x a.input.now a.output.now) c.opened-stream.ensures;
    }

pub loop-i-preserved : goal.loop-i-preserved
loop-i-preserved c =
    let a = c.args in
    let t = c.loop-i-test.true in
    let on = went_on c.loop-i.stream a.input.now c.loop-i.output c.loop-i.i t _ _ c.feed-fed.ensures (ap number c.in_default.is) in
    (omega arith, c.feed-fed.auto.out ∙ c.loop-i.invariant.1, on ∙ c.loop-i.invariant.2)

pub shape_of-output : goal.shape_of-output
shape_of-output c = c.loop-i.invariant.1

pub returns : goal.returns
returns c =
    let a = c.args in
    let i = c.loop-i.invariant.0 in
    let none = drop_of_length-le a.input.now c.loop-i-test.false in
    record {
      worked =
          sym (ap (λ (l : List ℕ). by_bytes c.loop-i.stream l c.loop-i.output) none)
          ∙ c.loop-i.invariant.2 ∙ ap (λ (x : Stream). by_bytes x a.input.now a.output.now) c.opened-stream.ensures;
    }
