use mathlib.Core.Path.{◌≡◌, ap, ◌∙◌, subst}
use Prim.Native.Nat.{ℕ, ◌+◌, ◌/◌}
use native.Mathlib.Omega.{arith}
use lib.ListN.{length}
use Rattle.hierocrypt3_tables.specs.Constants.{G0}
use Rattle.hierocrypt3_keys.specs.Keys.{σ0, Z, next, key_of}
use Rattle.hierocrypt3_keys.proofs.Laid.{Laid, laid_start, laid_step, laid_end, Z_step, K_step}
use Rattle.hierocrypt3_keys.proofs.round_keys.Goals as goal

pub loop-t-init : goal.loop-t-init
unfolding Z
loop-t-init c = (c.pre_whitening-z.ensures ∙ ap (σ0 (G0 5)) c.padding.ensures, laid_start c.args.key.now)

pub loop-t-preserved : goal.loop-t-preserved
loop-t-preserved c = let loop = c.loop-t in
    let key = c.args.key.now in
    let y = c.next-z.result in
    let stepped = c.next-z.ensures ∙ ap (λ (n : ℕ). next n (loop.t + 1) loop.z) c.new-length.ensures in
    let made = c.round_key.ensures ∙ ap (λ (n : ℕ). key_of n (loop.t + 1) loop.z y) c.new-length.ensures in
    let z = Z_step key loop.t loop.z y stepped loop.invariant.0 in
    let k = K_step key loop.t loop.z y _ made loop.invariant.0 z in
    (z, laid_step _ loop.invariant.1 c.put_key.ensures k)

pub returns : goal.returns
returns c = let loop = c.loop-t in
    let key = c.args.key.now in
    let e : loop.t ≡ length key / 8 + 4 + 1 = omega arith in
    laid_end key loop.keys (subst (λ (n : ℕ). Laid key n loop.keys) e loop.invariant.1)
