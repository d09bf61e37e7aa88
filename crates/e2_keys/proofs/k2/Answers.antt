-- `k2`: of the key where it has 24 bytes or more, else what it lacks.
use mathlib.Core.Path.{ap, ◌∙◌}
use Rattle.e2_steps.specs.Steps.{S}
use Rattle.e2_keys.proofs.KeyParts.{key-part, lacks_K2}
use borrow.Author.Rules.{rules}
use Rattle.e2_keys.proofs.k2.Goals as goal

pub returns-then-key-lt24 : goal.returns-then-key-lt24
returns-then-key-lt24 c = c.s-then-key-lt24-2.ensures ∙ ap S (c.s-then-key-lt24.ensures ∙ ap S (c.s.ensures ∙ ap S c.constant.ensures))
    ∙ lacks_K2 c.args.key.now c.requires c.if-key-lt24.true

pub returns : goal.returns
returns c = c.load.ensures ∙ key-part c.args.key.now 16 (search rules)
