use mathlib.Core.Path.{◌≡◌, refl, sym, ◌∙◌}
use mathlib.Core.Bool.{true}
use Prim.Native.Nat.{ℕ}
use native.Mathlib.Omega.{arith}
use Rattle.card_slots.specs.Card.{good}
use Rattle.card.proofs.Answers.{found_bad, found_none, one_part, one_at, none_part, none_at}
use Rattle.card.proofs.find.Goals as goal

pub returns-then-not-good : goal.returns-then-not-good
returns-then-not-good c =
    let args = c.args in
    let p : ℕ × ℕ = (args.recipe, args.segment) in
    let none = found_bad args.card.now p (sym c.good.ensures.answered ∙ c.if-not-good.true) in
    let at = none_at args.card.now p none in
    record { handed = record { inside = refl; begins = omega arith; holds = none_part args.card.now p none } }

pub returns-then-i-n : goal.returns-then-i-n
returns-then-i-n c =
    let is_good : good c.args.card.now ≡ true = sym c.good.ensures.answered ∙ c.if-not-good.false in
    let args = c.args in
    let p : ℕ × ℕ = (args.recipe, args.segment) in
    let g = is_good in
    let part = c.at.ensures in
    let at = one_at args.card.now p g _ c.of_pair-i.ensures (omega arith) in
    record {
      handed =
          record {
            inside = part.inside;
            begins = omega (arith, part.begins);
            holds = part.holds ∙ one_part args.card.now p g _ c.of_pair-i.ensures (omega arith);
          };
    }

pub returns : goal.returns
returns c =
    let is_good : good c.args.card.now ≡ true = sym c.good.ensures.answered ∙ c.if-not-good.false in
    let args = c.args in
    let p : ℕ × ℕ = (args.recipe, args.segment) in
    let none = found_none args.card.now p is_good _ c.of_pair-i.ensures (omega arith) in
    let at = none_at args.card.now p none in
    record { handed = record { inside = refl; begins = omega arith; holds = none_part args.card.now p none } }
