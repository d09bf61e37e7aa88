-- Noekeon's steps: 003, in its names and order. A block P and a key K are four words of 32 bits, P0 P1 P2 P3 and K0 K1 K2 K3. S and so θ go by a rule; γ, π1 and
-- π2 are the same in both Noekeons.
use Rattle.std.specs.Prelude.{ℕ, ◌-◌, ◌^◌}
use Rattle.std.specs.Int.Bits.{bit_and, bit_or, bit_xor}
use Rattle.laws.specs.Turn.{rol, ror}
use Rattle.noekeon_steps.specs.Rule.{Rule}
use Rattle.noekeon_steps.specs.declared.Quad.{Quad}

-- ---- θ
-- S(t): t := t ⊕ shr8 t ⊕ shl8 t, with the rule's shifts
abbrev pub S : Rule → ℕ → ℕ
S r t = bit_xor (bit_xor t (r.right8 t)) (r.left8 t)

abbrev pub θ : Rule → Quad → Quad → Quad
θ r k p =
    let t = S r (bit_xor p.p0 p.p2) in
    let q1 = bit_xor (bit_xor p.p1 t) k.p1 in
    let q3 = bit_xor (bit_xor p.p3 t) k.p3 in
    let q0 = bit_xor p.p0 k.p0 in
    let q2 = bit_xor p.p2 k.p2 in
    let u = S r (bit_xor q1 q3) in
    record { p0 = bit_xor q0 u; p1 = q1; p2 = bit_xor q2 u; p3 = q3 }

-- the key 0
abbrev pub zero_key : Quad
zero_key = record { p0 = 0; p1 = 0; p2 = 0; p3 = 0 }

-- ---- the first word xored with a constant (02, request 2)
abbrev pub first_xored : ℕ → Quad → Quad
first_xored c p = record { p0 = bit_xor p.p0 c; p1 = p.p1; p2 = p.p2; p3 = p.p3 }

-- ---- γ, with ¬ as inverted
abbrev pub inverted : ℕ → ℕ
inverted x = (2 ^ 32 - 1) - x

abbrev pub γ : Quad → Quad
γ p =
    let q1 = bit_xor p.p1 (inverted (bit_or p.p2 p.p3)) in
    let q0 = bit_xor p.p0 (bit_and q1 p.p2) in
    let r0 = p.p3 in
    let r3 = q0 in
    let r2 = bit_xor (bit_xor (bit_xor r0 q1) p.p2) r3 in
    let r1 = bit_xor q1 (inverted (bit_or r2 r3)) in
    record { p0 = bit_xor r0 (bit_and r1 r2); p1 = r1; p2 = r2; p3 = r3 }

-- ---- π1, π2
abbrev pub π1 : Quad → Quad
π1 p = record { p0 = p.p0; p1 = rol 32 1 p.p1; p2 = rol 32 5 p.p2; p3 = rol 32 2 p.p3 }

abbrev pub π2 : Quad → Quad
π2 p = record { p0 = p.p0; p1 = ror 32 1 p.p1; p2 = ror 32 5 p.p2; p3 = ror 32 2 p.p3 }
