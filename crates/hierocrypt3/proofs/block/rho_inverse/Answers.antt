use mathlib.Core.Path.{ap, ◌∙◌}
use Prim.Native.Nat.{◌+◌}
use Rattle.hierocrypt3.specs.Block.{XS⁻, round_key}
use Rattle.hierocrypt3.proofs.block.rho_inverse.Goals as goal

pub returns : goal.returns
returns c = let args = c.args in
    c.xs_inverse.ensures
    ∙ ap (XS⁻ (round_key args.keys.now (args.i + 1))) c.unmixed.ensures
