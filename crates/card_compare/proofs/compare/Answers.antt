use mathlib.Core.Path.{◌≡◌, sym, ap, ◌∙◌}
use mathlib.Core.List.{◌++◌}
use Prim.Native.Nat.{ℕ, ◌-◌, ◌*◌, ◌≤◌}
use native.Mathlib.Omega.{arith}
use lib.ListN.{length, take, drop}
use Rattle.laws.specs.Bytes.{bytes_of}
use Rattle.card_compare.proofs.Outcome.{outcome}
use Rattle.card_compare.proofs.compare.Goals as goal

pub returns : goal.returns
returns c =
    let list = c.changes-n.new.list in
    let few = c.changes-n.ensures.0 in
    let room : c.changes-n.result ≤ length list = omega arith in
    let z : c.to_write-w.result - 0 ≡ c.to_write-w.result = omega arith in
    outcome c.args.first.now c.args.second.now c.args.out.now list (c.is_some.ensures ∙ c.judged-one.ensures.answered) (c.is_some-2.ensures ∙ c.judged-two.ensures.answered)
    room (λ x y. c.changes-n.ensures.1 (sym c.is_some.ensures ∙ x) (sym c.is_some-2.ensures ∙ y)) c.first-answer.ensures c.to_write-w.ensures.1
    (c.write.ensures ∙ ap (λ (m : ℕ). bytes_of (take m list) ++ drop (length (take m list) * 4) c.args.out.now) z)
