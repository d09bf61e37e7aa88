-- What only serves the code: a cipher's block functions as a way names them. No page defines these.
use Rattle.std.specs.Prelude.{◌≡◌, true, List, [], ◌∷◌, ℕ, eqb}
use Rattle.laws.specs.Choice.{choose}
use Rattle.cipher_numbers.specs.Ciphers.{number, is_length}
use Rattle.blocks_lent.specs.declared.Way.{Way}

-- the block functions under round keys
abbrev pub E : Way → List ℕ → List ℕ → List ℕ
E w keys = (number w.cipher).encipher w.length keys

abbrev pub D : Way → List ℕ → List ℕ → List ℕ
D w keys = (number w.cipher).decipher w.length keys

-- in the way's direction
abbrev pub F : Way → List ℕ → List ℕ → List ℕ
F w keys x = choose (eqb w.direction 1) (E w keys x) (D w keys x)

-- a function of each block
abbrev pub each : (List ℕ → List ℕ) → List (List ℕ) → List (List ℕ)
each f [] = []
each f (b ∷ bs) = f b ∷ each f bs

abbrev pub LegalWay : Way → Type 0
LegalWay w = is_length w.cipher w.length ≡ true
