-- `Noekeon::back`. The loop's invariant: after j turns, j rounds backwards, and the constant that comes next.
use mathlib.Core.Path.{◌≡◌, ap, ap₂, ◌∙◌}
use Prim.Native.Nat.{ℕ, ◌+◌, ◌-◌}
use native.Mathlib.Omega.{arith}
use borrow.Author.Rules.{rules}
use Rattle.laws.proofs.Rounds.{steps_start, steps_step, steps_end}
use Rattle.noekeon_steps.specs.declared.Quad.{Quad}
use Rattle.noekeon_steps.specs.Rule.{rule_of}
use Rattle.noekeon_steps.specs.Steps.{first_xored, θ, zero_key}
use Rattle.noekeon.specs.Noekeon.{constant, mixed, cipher⁻}
use Rattle.noekeon.proofs.Constants.{constant_at}
use Rattle.noekeon.proofs.Noekeon.back.Goals as goal

pub loop-j-init : goal.loop-j-init
loop-j-init c = (steps_start _ _, constant_at c.args.self.now.version c.args.self.now.constants c.args.self.now.are_its_own 16)

pub loop-j-preserved : goal.loop-j-preserved
loop-j-preserved c = let loop = c.loop-j in
    let r = rule_of c.args.self.now.version in
    let k = θ r zero_key c.args.k in
    let place : 15 - loop.j ≡ 16 - (loop.j + 1) = omega arith in
    let next = constant_at c.args.self.now.version c.args.self.now.constants c.args.self.now.are_its_own _ ∙ ap (constant r) place in
    (steps_step loop.invariant.0 (c.mix-q.ensures ∙ ap mixed (c.theta_then_constant.ensures ∙ ap (λ (n : ℕ). first_xored n (θ r k loop.q)) loop.invariant.1)), next)

pub returns : goal.returns
unfolding cipher⁻
returns c = let loop = c.loop-j in
    let r = rule_of c.args.self.now.version in
    let k = θ r zero_key c.args.k in
    let none : 16 - loop.j ≡ 0 = search rules in
    c.theta_then_constant-2.ensures
    ∙ ap₂ (λ (n : ℕ) (q : Quad). first_xored n (θ r k q)) (loop.invariant.1 ∙ ap (constant r) none) (steps_end 16 loop.invariant.0 (search rules) (search rules))
