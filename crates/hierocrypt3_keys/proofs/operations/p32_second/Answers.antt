use mathlib.Core.Path.{ap, ◌∙◌}
use mathlib.Core.List.{List}
use Prim.Native.Nat.{ℕ}
use Rattle.laws.specs.Bytes.{xor_l}
use Rattle.laws.proofs.Known.{bytes_known}
use Rattle.hierocrypt3_keys.specs.code.Exchanged.{exchanged}
use Rattle.hierocrypt3_keys.proofs.PFunction.{p32_second}
use Rattle.hierocrypt3_keys.proofs.operations.p32_second.Goals as goal

pub returns : goal.returns
returns c = let x = c.args.x in
    let y = c.args.y in
    let lx = (bytes_known 8 x _ c.well_formed.0).long in
    let ly = (bytes_known 8 y _ c.well_formed.1.0).long in
    c.xor-2.ensures
    ∙ ap (λ (l : List ℕ). xor_l 8 l y) (c.halves_exchanged.ensures ∙ ap (exchanged 4) c.xor.ensures)
    ∙ p32_second x y lx ly
