use mathlib.Core.Path.{◌≡◌}
use mathlib.Core.List.{[]}
use borrow.Author.Rules.{rules}
use Rattle.cipher_numbers.proofs.Legal.{legal_length}
use Rattle.blocks_lent.proofs.ByNumber.{E-1, E-2, E-noekeon, chain-forth}
use Rattle.cipher_blocks.proofs.chain.last.Goals as goal

pub new-requires-in-1 : goal.new-requires-in-1
new-requires-in-1 c = legal_length _ _ c.requires.0

pub returns-in-1 : goal.returns-in-1
returns-in-1 c = let a = c.args in
    let k = a.keys.now in
    chain-forth a.way k a.n a.chain [] _ [] c.new-message.ensures (E-1 a.way k c.new-in-1.ensures c.in-1.is) c.last_with.ensures

pub returns-in-2 : goal.returns-in-2
returns-in-2 c = let a = c.args in
    let k = a.keys.now in
    chain-forth a.way k a.n a.chain [] _ [] c.new-message.ensures (E-2 a.way k c.in-2.is) c.last_with-in-2.ensures

pub returns-in_default : goal.returns-in_default
returns-in_default c = let a = c.args in
    let k = a.keys.now in
    let no_1 : a.way.cipher ≡ 1 → ⊥ = search rules in
    let no_2 : a.way.cipher ≡ 2 → ⊥ = search rules in
    chain-forth a.way k a.n a.chain [] _ [] c.new-message.ensures (E-noekeon a.way k c.requires.0 no_1 no_2 c.new-in_default.ensures.0 c.noekeon.ensures) c.last_with-in_default.ensures
