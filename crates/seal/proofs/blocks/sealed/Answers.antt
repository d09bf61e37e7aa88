use mathlib.Core.Path.{◌≡◌, ap, ap₂, ◌∙◌}
use mathlib.Core.List.{List}
use Prim.Native.Nat.{ℕ}
use lib.ListN.{take, drop}
use Rattle.laws.specs.Bytes.{xor_l}
use Rattle.runs.specs.Zeros.{zeros}
use Rattle.cmac.specs.Cmac.{L, doubled, last}
use Rattle.cipher.specs.Schedule.{enciphered}
use Rattle.seal.specs.Calls.{sealed}
use Rattle.seal.proofs.Outcomes.{good}
use Rattle.seal.proofs.blocks.sealed.Goals as goal

pub enciphered-l-requires : goal.enciphered-l-requires
enciphered-l-requires c = (good _ c.requires).schedule

pub masked-last-requires : goal.masked-last-requires
masked-last-requires c =
    let n = c.held_number.ensures in
    (n.1, ap (λ (k : ℕ). zeros (drop k c.args.s.held)) n.0 ∙ (good _ c.requires).held)

pub enciphered-requires : goal.enciphered-requires
enciphered-requires c = (good _ c.requires).schedule

pub returns : goal.returns
unfolding sealed L
returns c =
    let l_is : c.enciphered-l.result ≡ L (enciphered c.args.s.schedule) = c.enciphered-l.ensures in
    let s = c.args.s in
    let mn =
    c.masked-last.ensures
    ∙ ap₂ (λ (l : List ℕ) (k : ℕ). last (doubled l) (doubled (doubled l)) (take k s.held)) l_is c.held_number.ensures.0 in
    c.enciphered.ensures ∙ ap (enciphered s.schedule) (c.xor.ensures ∙ ap (xor_l 16 s.chain) mn)
