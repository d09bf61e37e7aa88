-- `Version::theta_then_constant`: what the two calls of S give, put into the rest; and that is θ under θ(0, K) and the constant, since all of it is words.
use mathlib.Core.Path.{sym, ap, ◌∙◌}
use Prim.Native.Nat.{ℕ}
use lib.Bits.{bit_xor}
use Rattle.noekeon_steps.specs.Rule.{rule_of}
use Rattle.noekeon_steps.specs.Steps.{S, first_xored}
use Rattle.noekeon_steps.specs.declared.Quad.{Quad}
use Rattle.noekeon_steps.proofs.Linear.{Good, sound_of, θ_inverse}
use borrow.Author.Rules.{rules}
use Rattle.noekeon_steps.proofs.Version.theta_then_constant.Goals as goal

-- the result, by what the two calls give
abbrev given : ℕ → Quad → Quad → ℕ → ℕ → Quad
given n k p t u = record {
  p0 = bit_xor (bit_xor (bit_xor p.p0 t) k.p0) n;
  p1 = bit_xor (bit_xor p.p1 k.p1) u;
  p2 = bit_xor (bit_xor p.p2 t) k.p2;
  p3 = bit_xor (bit_xor p.p3 k.p3) u;
}

pub returns : goal.returns
returns c = let r = rule_of c.args.self in
    let k = c.args.k in
    let p = c.args.p in
    let n = c.args.c in
    let x = c.well_formed.1.0 in
    let y = c.well_formed.1.1.0 in
    let g : Good k = (search rules, (search rules, (search rules, (search rules, tt)))) in
    let h : Good p = (search rules, (search rules, (search rules, (search rules, tt)))) in
    ap (given n k p c.spread_aside-t.result) c.spread-u.ensures
    ∙ ap (λ (t : ℕ). given n k p t (S r (bit_xor (bit_xor (bit_xor p.p0 t) k.p0) (bit_xor (bit_xor p.p2 t) k.p2)))) c.spread_aside-t.ensures
    ∙ ap (first_xored n) (sym (θ_inverse r (sound_of c.args.self) k p g h))
