use mathlib.Core.Path.{◌≡◌, ap, ap₂, ◌∙◌}
use mathlib.Core.List.{List, ◌++◌}
use Prim.Native.Nat.{ℕ, ◌+◌, ◌-◌}
use native.Mathlib.Omega.{arith}
use lib.ListN.{length, take, drop, replicate, length-append, length-drop}
use lib.Seq.{length-take-le, take_at}
use Rattle.pieces.proofs.Hand.{middle_at_the_end, first_parts}
use Rattle.pieces.proofs.held.first_block.Goals as goal

pub returns : goal.returns
returns c =
    let h = c.args.held.now in
    let p = c.args.piece.now in
    let n = c.min-n.result in
    let m = c.min-n.ensures in
    let fits = c.requires.0 in
    let first = c.copy_from_slice.new.self in
    let zeros : List ℕ = drop n (replicate 16 0) in
    let copied = c.copy_from_slice.ensures.after in
    let long : length first ≡ n = ap length copied ∙ length-take-le n h (omega arith) in
    let rest : length zeros ≡ 16 - n = length-drop n (replicate {A = ℕ} 16 0) in
    let whole : n + (16 - n) ≡ length (first ++ zeros) = omega (arith, length-append first zeros, long, rest) in
    middle_at_the_end n (16 - n) (first ++ zeros) c.copy_from_slice-2.new.self whole
    ∙ ap (λ (l : List ℕ). l ++ c.copy_from_slice-2.new.self) (take_at first zeros n long)
    ∙ ap₂ ◌++◌ copied c.copy_from_slice-2.ensures.after
    ∙ first_parts h p c.args.kept n fits m
