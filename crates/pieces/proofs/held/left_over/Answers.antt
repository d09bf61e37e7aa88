use mathlib.Core.Path.{◌≡◌, refl, ap, sym, ◌∙◌}
use Prim.Native.Nat.{ℕ, ◌+◌, ◌-◌, ◌*◌}
use native.Mathlib.Omega.{arith}
use lib.ListN.{length, drop, length-drop}
use lib.Seq.{take_all}
use borrow.Author.Rules.{rules}
use borrow.Rule.Slice.PartMut.{put_mid}
use Rattle.pieces.specs.Pieces.{held_in}
use Rattle.pieces.proofs.Hand.{left_none, left_some, put_after, put_before}
use Rattle.pieces.proofs.held.left_over.Goals as goal

pub returns-then-n-eq0 : goal.returns-then-n-eq0
returns-then-n-eq0 c =
    let a = c.args in
    let h = a.held.now in
    let p = a.piece.now in
    let k = a.kept in
    let asks = c.requires in
    ap (put_mid k (k + length p - k) h) c.copy_from_slice.ensures.after
    ∙ put_after h p k (k + length p - k) asks.0 asks.2 (omega arith)
    ∙ ap (held_in (length h)) (left_none h p k a.n c.if-n-eq0.true)

pub returns : goal.returns
returns c =
    let a = c.args in
    let h = a.held.now in
    let p = a.piece.now in
    let k = a.kept in
    let asks = c.requires in
    let from : ℕ = 16 * a.n - k in
    let d = length-drop from p in
    let filled = c.fill.ensures.after (λ y e. search rules) in
    let rest : c.copy_from_slice-2.new.self ≡ drop from p =
    c.copy_from_slice-2.ensures.after ∙ take_all (length p - from) (drop from p) (omega arith) in
    put_before h c.copy_from_slice-2.new.self c.fill.new.self _ (length h) filled refl (sym (ap length c.copy_from_slice-2.ensures.after))
    ∙ ap (held_in (length h)) (rest ∙ left_some h p k a.n asks.0 (omega arith))
