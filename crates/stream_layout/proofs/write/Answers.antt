use mathlib.Core.Path.{◌≡◌, refl}
use borrow.Author.Rules.{rules}
use lib.ListN.{length}
use Rattle.stream_layout.specs.Layout.{chain, numbers, laid}
use Rattle.stream_layout.proofs.Behind.{Begun, behind}
use Rattle.stream_layout.proofs.write.Goals as goal

pub returns : goal.returns
unfolding laid
returns c =
    let chain_16 : length c.args.f.chain ≡ 16 = search rules in
    let held_16 : length c.args.f.held ≡ 16 = search rules in
    let f = c.args.f in
    let one : Begun c.args.out.now (numbers f) chain.begins c.put_numbers.new.out = record { long = refl; is = c.put_numbers.ensures } in
    let two = behind f.chain 16 chain_16 one c.store.ensures in
    (behind f.held 16 held_16 two c.store-2.ensures).is
