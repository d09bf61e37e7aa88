use mathlib.Core.Path.{◌≡◌, refl}
use mathlib.Core.List.{◌++◌}
use native.Mathlib.Omega.{arith}
use lib.ListN.{length, length-append}
use borrow.Author.Rules.{rules}
use Rattle.hierocrypt3_keys.proofs.Laid.{placed_append}
use Rattle.hierocrypt3_keys.proofs.put_key.Goals as goal

pub returns : goal.returns
returns c = let long : (length c.args.k.k1 ≡ 8) × (length c.args.k.k2 ≡ 8) × (length c.args.k.k3 ≡ 8) = search rules in
    let k = c.args.k in
    let l = long in
    let e12 : length (k.k1 ++ k.k2) ≡ 16 = omega (arith, l, length-append k.k1 k.k2) in
    let e123 : length (k.k1 ++ k.k2 ++ k.k3) ≡ 24 = omega (arith, l, length-append (k.k1 ++ k.k2) k.k3) in
    let k12 = placed_append l.0 refl c.put.ensures c.put-2.ensures in
    placed_append e123 refl (placed_append e12 refl k12 c.put-3.ensures) c.put-4.ensures
