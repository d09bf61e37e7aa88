-- `k3`: of the key where it has 32 bytes, else what it lacks.
use mathlib.Core.Path.{ap, ◌∙◌}
use Rattle.e2_steps.specs.Steps.{S}
use Rattle.e2_keys.proofs.KeyParts.{key-part, lacks_K3}
use borrow.Author.Rules.{rules}
use Rattle.e2_keys.proofs.k3.Goals as goal

pub returns-then-key-lt32 : goal.returns-then-key-lt32
returns-then-key-lt32 c = c.s-then-key-lt32-3.ensures ∙ ap S (c.s-then-key-lt32-2.ensures ∙ ap S (c.s-then-key-lt32.ensures ∙ ap S (c.s.ensures ∙ ap S c.constant.ensures)))
    ∙ lacks_K3 c.args.key.now c.requires c.if-key-lt32.true

pub returns : goal.returns
returns c = c.load.ensures ∙ key-part c.args.key.now 24 (search rules)
