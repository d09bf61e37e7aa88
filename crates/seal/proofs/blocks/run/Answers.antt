use mathlib.Core.Path.{◌≡◌, ap, ◌∙◌}
use mathlib.Core.List.{List, ◌++◌}
use Prim.Native.Nat.{ℕ, ◌-◌}
use native.Mathlib.Omega.{arith}
use borrow.Author.Rules.{rules}
use lib.ListN.{length, take, drop}
use Rattle.cbc.specs.Cbc.{blocks}
use Rattle.cmac.specs.Cmac.{chained}
use Rattle.cmac.proofs.Cut.{chained_by_cbc}
use Rattle.pieces.proofs.Hand.{hand_parts}
use Rattle.cipher.specs.Schedule.{enciphered}
use Rattle.seal.proofs.blocks.run.Goals as goal

pub first_block-first-requires : goal.first_block-first-requires
first_block-first-requires c =
    let held_16 : length c.args.s.held ≡ 16 = search rules in
    let l = held_16 in
    let p = c.requires in
    omega arith

pub returns : goal.returns
unfolding enciphered
returns c =
    let held_16 : length c.args.s.held ≡ 16 = search rules in
    let a = c.args in
    let E = enciphered a.s.schedule in
    let l = held_16 in
    let k = a.kept in
    let p = a.piece.now in
    let message = ap (λ (x : List ℕ). x ++ take (length p - (16 - k)) (drop (16 - k) p)) c.first_block-first.ensures ∙ hand_parts a.s.held p k (omega arith) c.requires.1 in
    c.last.ensures
    ∙ chained_by_cbc E a.s.chain _
    ∙ ap (λ (w : List ℕ). chained E a.s.chain (blocks a.n w)) message
