use mathlib.Core.Path.{sym}
use mathlib.Core.List.{◌++◌}
use Rattle.laws.proofs.Places.{tab_self}
use Rattle.laws.proofs.Known.{bytes_known}
use Rattle.hierocrypt3_keys.proofs.operations.joined.Goals as goal

pub returns : goal.returns
returns c = let x = c.args.x in
    let y = c.args.y in
    λ i. sym (tab_self 4 0 x (bytes_known 4 x _ c.well_formed.0).long) i ++ sym (tab_self 4 0 y (bytes_known 4 y _ c.well_formed.1.0).long) i
