-- `Noekeon::encipher`: the block and K loaded, worked and stored.
use mathlib.Core.Path.{ap, ap₂, ◌∙◌}
use Rattle.noekeon_steps.specs.Rule.{rule_of}
use Rattle.noekeon.specs.Noekeon.{cipher, store, encipher}
use Rattle.noekeon.proofs.Noekeon.encipher.Goals as goal

pub returns : goal.returns
unfolding encipher
returns c = let r = rule_of c.args.self.now.version in
    c.store.ensures ∙ ap store (c.forth-q.ensures ∙ ap₂ (cipher r) c.load.ensures c.load-p.ensures)
