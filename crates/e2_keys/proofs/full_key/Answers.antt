-- `full_key`: K0 and K1 are of the key.
use mathlib.Core.List.{[], ◌∷◌}
use mathlib.Core.Path.{◌∙◌}
use Rattle.e2_keys.proofs.KeyParts.{key-part}
use borrow.Author.Rules.{rules}
use Rattle.e2_keys.proofs.full_key.Goals as goal

pub returns : goal.returns
returns c = let k = c.args.key.now in
    λ i. (c.load.ensures ∙ key-part k 0 (search rules)) i
    ∷ (c.load-2.ensures ∙ key-part k 8 (search rules)) i
    ∷ c.k2.ensures i
    ∷ c.k3.ensures i
    ∷ []
