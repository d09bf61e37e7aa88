use mathlib.Core.Path.{◌≡◌, ap, ◌∙◌}
use mathlib.Core.List.{List}
use Prim.Native.Nat.{ℕ}
use native.Mathlib.Omega.{arith}
use borrow.Author.Rules.{rules}
use lib.ListN.{length, set}
use Rattle.laws.specs.Bytes.{xor_l}
use Rattle.cmac.specs.Cmac.{doubled}
use Rattle.cmac_steps.proofs.Masked.{mask_whole, mask_part}
use Rattle.cmac_steps.proofs.last.masked.Goals as goal

pub returns-then-n-eq16 : goal.returns-then-n-eq16
returns-then-n-eq16 c =
    let long : length c.args.held ≡ 16 = search rules in
    let a = c.args in
    c.xor.ensures
    ∙ ap (λ (k : List ℕ). xor_l 16 k a.held) c.doubled-k1.ensures
    ∙ mask_whole (doubled a.l) (doubled (doubled a.l)) a.held a.n long c.if-n-eq16.true

pub returns : goal.returns
returns c =
    let long : length c.args.held ≡ 16 = search rules in
    let a = c.args in
    let p = c.requires in
    let part = c.if-n-eq16.false in
    c.xor-2.ensures
    ∙ ap (λ (k : List ℕ). xor_l 16 k (set a.held a.n 128)) (c.doubled-k2.ensures ∙ ap doubled c.doubled-k1.ensures)
    ∙ mask_part (doubled a.l) (doubled (doubled a.l)) a.held a.n long (omega arith) p.1
