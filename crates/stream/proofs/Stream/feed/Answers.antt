use mathlib.Core.Path.{◌≡◌, refl, sym, ap, ap₂, ◌∙◌}
use mathlib.Core.List.{List, ◌++◌}
use Prim.Native.Nat.{ℕ, ◌+◌, ◌*◌, ◌%◌, ◌/◌}
use native.Mathlib.Omega.{arith}
use borrow.Author.Rules.{rules}
use lib.ListN.{length, take, drop}
use Rattle.runs.specs.Zeros.{zeros}
use Rattle.refusals.specs.Refusals as refusal
use Rattle.refusals.proofs.Numbers.{not_done}
use Rattle.cbc.specs.Cbc.{Chained}
use Rattle.cbc.proofs.Loop.{running_start, running_end}
use Rattle.cipher.specs.Schedule.{enciphered, deciphered}
use Rattle.cipher.proofs.Answers.{good_length}
use Rattle.pieces.specs.Pieces.{held_in}
use Rattle.stream.specs.State.{stream_of, at_hand}
use Rattle.stream.specs.Calls.{piece_refusal, fed_as}
use Rattle.stream.specs.declared.Stream.{Stream}
use Rattle.stream.proofs.Outcomes.{good, AcceptedPiece, accepted_piece, piece_refused, piece_fed, piece_put}
use Rattle.stream.proofs.Stream.feed.Goals as goal
use Rattle.stream.proofs.Stream.feed.Goals.{then-n-gt0, else-n-gt0}

-- ---- behind the blocks: a new chain block, and the stream else as it was
abbrev chained_to : Stream → List ℕ → Stream
chained_to s last = stream_of s.schedule s.direction s.count last s.held s.closed

abbrev Ran : Stream → List ℕ → List ℕ → ℕ → List ℕ → List ℕ → Type 0
Ran s p o = Chained (enciphered s.schedule) (deciphered s.schedule) s.direction s.chain (at_hand s p) o

-- no block: the chain and the output as they were
ran_none : (s : Stream) (p o : List ℕ) (n : ℕ) (o' : List ℕ) → n ≡ 0 → o' ≡ o → Ran s p o n s.chain o'
ran_none s p o n o' none e =
    rw (none, e) (running_end _ _ _ _ _ _ 0 0 refl (running_start (enciphered s.schedule) (deciphered s.schedule) s.direction s.chain (at_hand s p) o))

record Past (s : Stream) (p o : List ℕ) (next : Stream) (o' : List ℕ) : Type 0 where
  last : List ℕ
  next_is : next ≡ chained_to s last
  ran : Ran s p o ((s.count % 16 + length p) / 16) last o'

pub returns-in-Err : goal.returns-in-Err
returns-in-Err c =
    let a = c.args in
    let r = piece_refused a.self a.piece.now a.out.now _ c.in-Err.ensures (not_done c.in-Err.refusal) in
    record { returned = c.fed_as.ensures ∙ r.0; left = r.1 }

pub run-last-requires : goal.run-last-requires
run-last-requires c =
    let done : piece_refusal c.args.self (length c.args.piece.now) (length c.args.out.now) ≡ refusal.done = sym c.in_default.ensures in
    let accepted : AcceptedPiece c.args.self (length c.args.piece.now) (length c.args.out.now) = accepted_piece c.args.self (length c.args.piece.now) (length c.args.out.now) done in
    let k = accepted in
    let f = k.fits in
    (good_length _ (good _ k.state).schedule, c.if-n-gt0.true, omega arith, omega arith)

-- behind the blocks the held bytes and the count stand, whichever way it came
pub left_over-requires : goal.left_over-requires
left_over-requires c =
    let done : piece_refusal c.args.self (length c.args.piece.now) (length c.args.out.now) ≡ refusal.done = sym c.in_default.ensures in
    let accepted : AcceptedPiece c.args.self (length c.args.piece.now) (length c.args.out.now) = accepted_piece c.args.self (length c.args.piece.now) (length c.args.out.now) done in
    let held_is : c.if-n-gt0.next.held ≡ c.args.self.held =
    elim c.if-n-gt0.branch [ then-n-gt0 w ↦ ap (λ (s : Stream). s.held) w.next-is | else-n-gt0 w ↦ ap (λ (s : Stream). s.held) w.next-is ] in
    let held_15 : length c.args.self.held ≡ 15 = search rules in
    let long : length c.if-n-gt0.next.held ≡ 15 = ap length held_is ∙ held_15 in
    let zero = ap (λ (h : List ℕ). zeros (drop (c.args.self.count % 16) h)) held_is in
    (omega arith, omega arith, zero ∙ (good _ accepted.state).held, omega arith, omega arith)

pub overflow_add-next : goal.overflow_add-next
overflow_add-next c =
    let done : piece_refusal c.args.self (length c.args.piece.now) (length c.args.out.now) ≡ refusal.done = sym c.in_default.ensures in
    let accepted : AcceptedPiece c.args.self (length c.args.piece.now) (length c.args.out.now) = accepted_piece c.args.self (length c.args.piece.now) (length c.args.out.now) done in
    let k = accepted.within in
    let n : c.if-n-gt0.next.count ≡ c.args.self.count =
    elim c.if-n-gt0.branch [ then-n-gt0 w ↦ ap (λ (s : Stream). s.count) w.next-is | else-n-gt0 w ↦ ap (λ (s : Stream). s.count) w.next-is ] in
    omega arith

pub returns : goal.returns
returns c =
    let done : piece_refusal c.args.self (length c.args.piece.now) (length c.args.out.now) ≡ refusal.done = sym c.in_default.ensures in
    let past : Past c.args.self c.args.piece.now c.args.out.now c.if-n-gt0.next c.if-n-gt0.out = elim c.if-n-gt0.branch [
      | then-n-gt0 w ↦ record {
        last = w.run-last.result;
        next_is = w.next-is;
        ran = record { last_is = w.run-last.ensures.last_is; out_is = w.out-is ∙ w.run-last.ensures.out_is };
      }
      | else-n-gt0 w ↦ record {
        last = c.args.self.chain;
        next_is = w.next-is;
        ran = ran_none c.args.self c.args.piece.now c.args.out.now _ _ (omega arith) w.out-is;
      }
    ] in
    let held_is : c.if-n-gt0.next.held ≡ c.args.self.held = ap (λ (s : Stream). s.held) past.next_is in
    let held_15 : length c.args.self.held ≡ 15 = search rules in
    let long : length c.if-n-gt0.next.held ≡ 15 = ap length held_is ∙ held_15 in
    let a = c.args in
    let s = a.self in
    let p = a.piece.now in
    let n = (s.count % 16 + length p) / 16 in
    let z = done in
    let b = past in
    let held = c.left_over.ensures
    ∙ ap₂ (λ (k : ℕ) (h : List ℕ). held_in k (drop (16 * n) (take (s.count % 16) h ++ p))) long held_is in
    let next = ap (λ (x : Stream). fed_as refusal.done (16 * n) (stream_of x.schedule x.direction (x.count + length p) x.chain c.left_over.new.held x.closed)) b.next_is in
    record {
      returned = c.fed_as-2.ensures ∙ next ∙ piece_fed s p a.out.now n z (omega arith) _ _ _ b.ran held;
      left = piece_put s p a.out.now n z (omega arith) _ _ b.ran;
    }
