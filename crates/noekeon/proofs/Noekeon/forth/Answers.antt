-- `Noekeon::forth`. The loop's invariant: after i turns, i rounds.
use mathlib.Core.Path.{ap, ap₂, ◌∙◌}
use Prim.Native.Nat.{ℕ}
use borrow.Author.Rules.{rules}
use Rattle.laws.proofs.Rounds.{steps_start, steps_step, steps_end}
use Rattle.noekeon_steps.specs.declared.Quad.{Quad}
use Rattle.noekeon_steps.specs.Rule.{rule_of}
use Rattle.noekeon_steps.specs.Steps.{first_xored, θ}
use Rattle.noekeon.specs.Noekeon.{mixed, cipher}
use Rattle.noekeon.proofs.Constants.{constant_at}
use Rattle.noekeon.proofs.Noekeon.forth.Goals as goal

pub loop-i-init : goal.loop-i-init
loop-i-init c = steps_start _ _

pub loop-i-preserved : goal.loop-i-preserved
loop-i-preserved c = let loop = c.loop-i in
    let r = rule_of c.args.self.now.version in
    let k = c.args.k in
    let own = constant_at c.args.self.now.version c.args.self.now.constants c.args.self.now.are_its_own loop.i in
    steps_step loop.invariant (c.mix-q.ensures ∙ ap mixed (c.constant_then_theta.ensures ∙ ap (λ (n : ℕ). θ r k (first_xored n loop.q)) own))

pub returns : goal.returns
unfolding cipher
returns c = let r = rule_of c.args.self.now.version in
    let k = c.args.k in
    let own = constant_at c.args.self.now.version c.args.self.now.constants c.args.self.now.are_its_own 16 in
    c.constant_then_theta-2.ensures
    ∙ ap₂ (λ (n : ℕ) (q : Quad). θ r k (first_xored n q)) own (steps_end 16 c.loop-i.invariant (search rules) (search rules))
