use mathlib.Core.Path.{◌≡◌, sym, ap, ap₂, ◌∙◌}
use mathlib.Core.List.{List, ◌++◌}
use Prim.Native.Nat.{ℕ, ◌+◌, ◌*◌}
use native.Mathlib.Omega.{arith}
use borrow.Author.Rules.{rules}
use lib.ListN.{length, take, drop}
use Rattle.runs.specs.Zeros.{zeros}
use Rattle.refusals.specs.Refusals as refusal
use Rattle.refusals.proofs.Numbers.{not_done}
use Rattle.cbc.specs.Cbc.{blocks}
use Rattle.cmac.specs.Cmac.{chained}
use Rattle.cmac.proofs.Cut.{pushed_within}
use Rattle.pieces.specs.Pieces.{held_in}
use Rattle.cipher.specs.Schedule.{enciphered}
use Rattle.cipher.proofs.Answers.{good_length}
use Rattle.seal.specs.State.{seal_of, at_hand}
use Rattle.seal.specs.Calls.{piece_refusal, fed_as}
use Rattle.seal.specs.declared.Seal.{Seal}
use Rattle.seal.proofs.Outcomes.{good, AcceptedPiece, accepted_piece, piece_refused, piece_fed}
use Rattle.seal.proofs.Seal.feed.Goals as goal
use Rattle.seal.proofs.Seal.feed.Goals.{then-n-gt0, else-n-gt0}

abbrev chained_to : Seal → List ℕ → Seal
chained_to s last = seal_of s.schedule s.count last s.held s.closed

record Past (s : Seal) (w : List ℕ) (n : ℕ) (next : Seal) : Type 0 where
  last : List ℕ
  next_is : next ≡ chained_to s last
  ran : last ≡ chained (enciphered s.schedule) s.chain (blocks n w)

pub returns-in-Err : goal.returns-in-Err
returns-in-Err c = record { returned = c.fed_as.ensures ∙ piece_refused _ _ _ c.in-Err.ensures (not_done c.in-Err.refusal) }

pub pushed-n-requires : goal.pushed-n-requires
pushed-n-requires c =
    let done : piece_refusal c.args.self (length c.args.piece.now) ≡ refusal.done = sym c.in_default.ensures in
    let accepted : AcceptedPiece c.args.self (length c.args.piece.now) = accepted_piece c.args.self (length c.args.piece.now) done in
    let w = accepted.within in omega arith

pub left_over-requires : goal.left_over-requires
left_over-requires c =
    let done : piece_refusal c.args.self (length c.args.piece.now) ≡ refusal.done = sym c.in_default.ensures in
    let accepted : AcceptedPiece c.args.self (length c.args.piece.now) = accepted_piece c.args.self (length c.args.piece.now) done in
    let held_16 : length c.args.self.held ≡ 16 = search rules in
    let n = c.held_number-kept.ensures in
    let l = held_16 in
    let within = pushed_within c.args.self.count (length c.args.piece.now) in
    let m = c.pushed-n.ensures in (
      omega arith,
      n.1,
      ap (λ (k : ℕ). zeros (drop k c.args.self.held)) n.0 ∙ (good _ accepted.state).held,
      omega arith,
      omega arith,
    )

pub run-last-requires : goal.run-last-requires
run-last-requires c =
    let done : piece_refusal c.args.self (length c.args.piece.now) ≡ refusal.done = sym c.in_default.ensures in
    let accepted : AcceptedPiece c.args.self (length c.args.piece.now) = accepted_piece c.args.self (length c.args.piece.now) done in
    let n = c.held_number-kept.ensures in
    let within = pushed_within c.args.self.count (length c.args.piece.now) in
    let m = c.pushed-n.ensures in
    (good_length _ (good _ accepted.state).schedule, n.1, c.if-n-gt0.true, omega arith)

pub overflow_add-next : goal.overflow_add-next
overflow_add-next c =
    let done : piece_refusal c.args.self (length c.args.piece.now) ≡ refusal.done = sym c.in_default.ensures in
    let accepted : AcceptedPiece c.args.self (length c.args.piece.now) = accepted_piece c.args.self (length c.args.piece.now) done in
    let k = accepted.within in
    let n : c.if-n-gt0.next.count ≡ c.args.self.count =
    elim c.if-n-gt0.branch [ then-n-gt0 w ↦ ap (λ (s : Seal). s.count) w.next-is | else-n-gt0 w ↦ ap (λ (s : Seal). s.count) w.next-is ] in
    omega arith

pub returns : goal.returns
returns c =
    let done : piece_refusal c.args.self (length c.args.piece.now) ≡ refusal.done = sym c.in_default.ensures in
    let held_16 : length c.args.self.held ≡ 16 = search rules in
    let s = c.args.self in
    let p = c.args.piece.now in
    let n = c.pushed-n.result in
    let kept = c.held_number-kept.ensures.0 in
    let b : Past s (at_hand s p) n c.if-n-gt0.next =
    elim c.if-n-gt0.branch [
      | then-n-gt0 w ↦ record {
        last = w.run-last.result;
        next_is = w.next-is;
        ran = w.run-last.ensures ∙ ap (λ (k : ℕ). chained (enciphered s.schedule) s.chain (blocks n (take k s.held ++ p))) kept;
      }
      | else-n-gt0 w ↦ let none : n ≡ 0 = omega arith in
          record { last = s.chain; next_is = w.next-is; ran = ap (λ (m : ℕ). chained (enciphered s.schedule) s.chain (blocks m (at_hand s p))) (sym none) }
    ] in
    let held =
    c.left_over.ensures
    ∙ ap₂ (λ (k h : ℕ). held_in h (drop (16 * n) (take k s.held ++ p))) c.held_number-kept.ensures.0 held_16 in
    let next =
    ap (λ (x : Seal). fed_as refusal.done (seal_of x.schedule (x.count + length p) x.chain c.left_over.new.held x.closed)) b.next_is in
    record { returned = c.fed_as-2.ensures ∙ next ∙ piece_fed s p done n c.pushed-n.ensures b.last _ b.ran held }
