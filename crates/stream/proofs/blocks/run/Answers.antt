use mathlib.Core.Path.{◌≡◌, ap, ◌∙◌, subst}
use mathlib.Core.List.{List, ◌++◌}
use Prim.Native.Nat.{ℕ, ◌-◌, ◌%◌}
use native.Mathlib.Omega.{arith}
use borrow.Author.Rules.{rules}
use lib.ListN.{length, take, drop}
use Rattle.cbc.specs.Cbc.{Chained}
use Rattle.cipher.specs.Schedule.{enciphered, deciphered}
use Rattle.stream.specs.declared.Stream.{Stream}
use Rattle.pieces.proofs.Hand.{hand_parts}
use Rattle.stream.proofs.blocks.run.Goals as goal

abbrev Ran : Stream → List ℕ → List ℕ → ℕ → List ℕ → List ℕ → Type 0
Ran s m o = Chained (enciphered s.schedule) (deciphered s.schedule) s.direction s.chain m o

of-message : (s : Stream) {m m' o : List ℕ} {n : ℕ} {last o' : List ℕ} → m ≡ m' → Ran s m o n last o' → Ran s m' o n last o'
of-message s {m} {m'} {o} {n} {last} {o'} e h = subst (λ (x : List ℕ). Ran s x o n last o') e h

pub first_block-first-requires : goal.first_block-first-requires
first_block-first-requires c =
    let held_15 : length c.args.s.held ≡ 15 = search rules in
    let l = held_15 in
    let p = c.requires in
    omega arith

pub returns : goal.returns
unfolding enciphered deciphered
returns c =
    let held_15 : length c.args.s.held ≡ 15 = search rules in
    let a = c.args in
    let l = held_15 in
    let k = a.s.count % 16 in
    let p = a.piece.now in
    let message = ap (λ (x : List ℕ). x ++ take (length p - (16 - k)) (drop (16 - k) p)) c.first_block-first.ensures ∙ hand_parts a.s.held p k (omega arith) (omega arith) in
    of-message a.s message c.run.ensures
