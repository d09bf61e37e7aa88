use mathlib.Core.Path.{◌∙◌}
use Rattle.laws.proofs.Known.{bytes_known}
use Rattle.hierocrypt3_keys.proofs.PFunction.{p32_first}
use Rattle.hierocrypt3_keys.proofs.operations.p32_first.Goals as goal

pub returns : goal.returns
returns c = let x = c.args.x in
    let y = c.args.y in
    let lx = (bytes_known 8 x _ c.well_formed.0).long in
    let ly = (bytes_known 8 y _ c.well_formed.1.0).long in
    c.xor.ensures ∙ p32_first x y lx ly
