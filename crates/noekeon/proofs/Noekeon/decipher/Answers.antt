-- `Noekeon::decipher`: the block and K loaded, worked backwards and stored.
use mathlib.Core.Path.{ap, ap₂, ◌∙◌}
use Rattle.noekeon_steps.specs.Rule.{rule_of}
use Rattle.noekeon_steps.specs.Steps.{θ, zero_key}
use Rattle.noekeon.specs.Noekeon.{cipher⁻, store, decipher}
use Rattle.noekeon.proofs.Noekeon.decipher.Goals as goal

pub returns : goal.returns
unfolding decipher
returns c = let r = rule_of c.args.self.now.version in
    c.store.ensures ∙ ap store (c.back-q.ensures ∙ ap₂ (cipher⁻ r) (ap (θ r zero_key) c.load.ensures) c.load-p.ensures)
