use mathlib.Core.Path.{◌≡◌, ap, ◌∙◌}
use mathlib.Core.List.{List, ◌++◌}
use Prim.Native.Nat.{ℕ, ◌*◌}
use borrow.Author.Rules.{rules}
use lib.ListN.{drop}
use Rattle.cbc.specs.Cbc.{blocks, join}
use Rattle.cipher_numbers.proofs.Legal.{legal_length}
use Rattle.blocks_lent.specs.Ways.{each}
use Rattle.blocks_lent.proofs.ByNumber.{E-1, E-2, E-noekeon, D-1, D-2, D-noekeon, F-forth, F-back}
use Rattle.cipher_blocks.proofs.alone.run.Goals as goal

-- what is laid down, by the function of a block
laid : (n : ℕ) (input out : List ℕ) {f h : List ℕ → List ℕ} → f ≡ h → join (each f (blocks n input)) ++ drop (16 * n) out ≡ join (each h (blocks n input)) ++ drop (16 * n) out
laid n input out e = ap (λ (f : List ℕ → List ℕ). join (each f (blocks n input)) ++ drop (16 * n) out) e

pub new-requires-in-1 : goal.new-requires-in-1
new-requires-in-1 c = legal_length _ _ c.requires.0

pub new-requires-in-1-cipher-2 : goal.new-requires-in-1-cipher-2
new-requires-in-1-cipher-2 c = legal_length _ _ c.requires.0

pub returns-in-1 : goal.returns-in-1
returns-in-1 c = let a = c.args in
    let k = a.keys.now in
    c.run_with.ensures
    ∙ laid a.n a.input.now a.out.now (E-1 a.way k c.new-in-1.ensures c.in-1.is ∙ F-forth a.way k c.if-way-eq-ENCIPHER.true)

pub returns-in-2 : goal.returns-in-2
returns-in-2 c = let a = c.args in
    let k = a.keys.now in
    c.run_with-in-2.ensures ∙ laid a.n a.input.now a.out.now (E-2 a.way k c.in-2.is ∙ F-forth a.way k c.if-way-eq-ENCIPHER.true)

pub returns-in_default : goal.returns-in_default
returns-in_default c = let a = c.args in
    let k = a.keys.now in
    let no_1 : a.way.cipher ≡ 1 → ⊥ = search rules in
    let no_2 : a.way.cipher ≡ 2 → ⊥ = search rules in
    c.run_with-in_default.ensures
    ∙ laid a.n a.input.now a.out.now (E-noekeon a.way k c.requires.0 no_1 no_2 c.new-in_default.ensures.0 c.noekeon.ensures ∙ F-forth a.way k c.if-way-eq-ENCIPHER.true)

pub returns-in-1-cipher : goal.returns-in-1-cipher
returns-in-1-cipher c = let a = c.args in
    let k = a.keys.now in
    c.run_with-in-1-cipher.ensures
    ∙ laid a.n a.input.now a.out.now (D-1 a.way k c.new-in-1-cipher-2.ensures c.in-1-cipher.is ∙ F-back a.way k c.if-way-eq-ENCIPHER.false)

pub returns-in-2-cipher : goal.returns-in-2-cipher
returns-in-2-cipher c = let a = c.args in
    let k = a.keys.now in
    c.run_with-in-2-cipher.ensures ∙ laid a.n a.input.now a.out.now (D-2 a.way k c.in-2-cipher.is ∙ F-back a.way k c.if-way-eq-ENCIPHER.false)

pub returns-in_default-cipher : goal.returns-in_default-cipher
returns-in_default-cipher c = let a = c.args in
    let k = a.keys.now in
    let no_1 : a.way.cipher ≡ 1 → ⊥ = search rules in
    let no_2 : a.way.cipher ≡ 2 → ⊥ = search rules in
    c.run_with-in_default-cipher.ensures
    ∙ laid a.n a.input.now a.out.now (D-noekeon a.way k c.requires.0 no_1 no_2 c.new-in_default-cipher.ensures.0 c.noekeon-in_default-cipher.ensures ∙ F-back a.way k c.if-way-eq-ENCIPHER.false)
