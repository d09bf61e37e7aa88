-- `Version::theta`: what the two calls of S give, put into the rest.
use mathlib.Core.Path.{ap, ◌∙◌}
use Prim.Native.Nat.{ℕ}
use lib.Bits.{bit_xor}
use Rattle.noekeon_steps.specs.Rule.{rule_of}
use Rattle.noekeon_steps.specs.Steps.{S}
use Rattle.noekeon_steps.specs.declared.Quad.{Quad}
use Rattle.noekeon_steps.proofs.Version.theta.Goals as goal

-- the result, by what the two calls give
abbrev given : Quad → Quad → ℕ → ℕ → Quad
given k p t u = record {
  p0 = bit_xor (bit_xor p.p0 k.p0) u;
  p1 = bit_xor (bit_xor p.p1 t) k.p1;
  p2 = bit_xor (bit_xor p.p2 k.p2) u;
  p3 = bit_xor (bit_xor p.p3 t) k.p3;
}

pub returns : goal.returns
returns c = let r = rule_of c.args.self in
    let k = c.args.k in
    let p = c.args.p in
    ap (given k p c.spread-t.result) c.spread_aside-u.ensures
    ∙ ap (λ (t : ℕ). given k p t (S r (bit_xor (bit_xor (bit_xor p.p1 t) k.p1) (bit_xor (bit_xor p.p3 t) k.p3)))) c.spread-t.ensures
