-- `round_keys`. The loop's invariant: y and l are those of generation i, and the bytes of the first 4i of q stand in their places.
use mathlib.Core.Path.{ap, ◌∙◌}
use Rattle.e2_keys.specs.Keys.{L}
use Rattle.e2_keys.specs.code.Layout.{four_halves}
use Rattle.e2_keys.proofs.Generations.{generating_start, generating_step, generating_end}
use Rattle.e2_keys.proofs.round_keys.Goals as goal

pub loop-i-init : goal.loop-i-init
loop-i-init c = let l = c.g_l-l.ensures ∙ ap (L (four_halves c.g_y-y.result)) c.constant.ensures in
    generating_start _ c.full_key.result _ _ c.full_key.ensures c.g_y-y.ensures l

pub loop-i-preserved : goal.loop-i-preserved
loop-i-preserved c =
    generating_step _ _ _ _ _ _ _ _ c.loop-i.invariant c.loop-i-test.true c.g_y-y-in-loop-i.ensures c.g_l-l-in-loop-i.ensures c.put_four.ensures

pub returns : goal.returns
returns c = generating_end _ _ _ _ _ c.loop-i.invariant c.loop-i-test.false
