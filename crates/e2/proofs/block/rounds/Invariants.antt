use mathlib.Core.Bool.{Bool}
use mathlib.Core.List.{List}
use Prim.Native.Nat.{ℕ, suc}
use Rattle.laws.specs.Bytes.{xor_l}
use Rattle.laws.proofs.Rounds.{Stepped}
use Rattle.e2_steps.specs.code.Layout.{pair_bytes}
use Rattle.e2.specs.Block.{F, sequence, round_key}
use Rattle.e2.specs.code.Layout.{is_back}
use Rattle.e2.proofs.block.rounds.Given as goal

abbrev round_of : List ℕ → Bool → ℕ → List ℕ × List ℕ → List ℕ × List ℕ
round_of keys back i q = (q.1, xor_l 8 q.0 (F q.1 (round_key keys (sequence back (suc i)))))

abbrev pub invariant-loop-i : goal.invariant-loop-i
invariant-loop-i l = Stepped (round_of l.keys (is_back l.order)) (pair_bytes l.initial.l, pair_bytes l.initial.r) l.i (pair_bytes l.l, pair_bytes l.r)
