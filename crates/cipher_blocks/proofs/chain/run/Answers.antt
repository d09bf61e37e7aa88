use mathlib.Core.Path.{◌≡◌}
use borrow.Author.Rules.{rules}
use Rattle.cipher_numbers.proofs.Legal.{legal_length}
use Rattle.blocks_lent.proofs.ByNumber.{E-1, E-2, E-noekeon, D-1, D-2, D-noekeon, chained-forth, chained-back}
use Rattle.cipher_blocks.proofs.chain.run.Goals as goal

pub new-requires-in-1 : goal.new-requires-in-1
new-requires-in-1 c = legal_length _ _ c.requires.0

pub new-requires-in-1-cipher-2 : goal.new-requires-in-1-cipher-2
new-requires-in-1-cipher-2 c = legal_length _ _ c.requires.0

pub returns-in-1 : goal.returns-in-1
returns-in-1 c = let a = c.args in
    let k = a.keys.now in
    chained-forth a.way k a.n a.chain a.out.now _ _ c.new-message.ensures c.if-way-eq-ENCIPHER.true (E-1 a.way k c.new-in-1.ensures c.in-1.is) c.encipher_with.ensures.last c.encipher_with.ensures.out

pub returns-in-2 : goal.returns-in-2
returns-in-2 c = let a = c.args in
    let k = a.keys.now in
    chained-forth a.way k a.n a.chain a.out.now _ _ c.new-message.ensures c.if-way-eq-ENCIPHER.true (E-2 a.way k c.in-2.is) c.encipher_with-in-2.ensures.last c.encipher_with-in-2.ensures.out

pub returns-in_default : goal.returns-in_default
returns-in_default c = let a = c.args in
    let k = a.keys.now in
    let no_1 : a.way.cipher ≡ 1 → ⊥ = search rules in
    let no_2 : a.way.cipher ≡ 2 → ⊥ = search rules in
    chained-forth a.way k a.n a.chain a.out.now _ _ c.new-message.ensures c.if-way-eq-ENCIPHER.true (E-noekeon a.way k c.requires.0 no_1 no_2 c.new-in_default.ensures.0 c.noekeon.ensures) c.encipher_with-in_default.ensures.last c.encipher_with-in_default.ensures.out

pub returns-in-1-cipher : goal.returns-in-1-cipher
returns-in-1-cipher c = let a = c.args in
    let k = a.keys.now in
    chained-back a.way k a.n a.chain a.out.now _ _ c.new-message.ensures c.if-way-eq-ENCIPHER.false (D-1 a.way k c.new-in-1-cipher-2.ensures c.in-1-cipher.is) c.decipher_with.ensures.last c.decipher_with.ensures.out

pub returns-in-2-cipher : goal.returns-in-2-cipher
returns-in-2-cipher c = let a = c.args in
    let k = a.keys.now in
    chained-back a.way k a.n a.chain a.out.now _ _ c.new-message.ensures c.if-way-eq-ENCIPHER.false (D-2 a.way k c.in-2-cipher.is) c.decipher_with-in-2-cipher.ensures.last c.decipher_with-in-2-cipher.ensures.out

pub returns-in_default-cipher : goal.returns-in_default-cipher
returns-in_default-cipher c = let a = c.args in
    let k = a.keys.now in
    let no_1 : a.way.cipher ≡ 1 → ⊥ = search rules in
    let no_2 : a.way.cipher ≡ 2 → ⊥ = search rules in
    chained-back a.way k a.n a.chain a.out.now _ _ c.new-message.ensures c.if-way-eq-ENCIPHER.false (D-noekeon a.way k c.requires.0 no_1 no_2 c.new-in_default-cipher.ensures.0 c.noekeon-in_default-cipher.ensures) c.decipher_with-in_default-cipher.ensures.last c.decipher_with-in_default-cipher.ensures.out
