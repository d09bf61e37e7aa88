-- θ is additive, so that equations with it are sums which `solve_words` balances, for every rule whose shifts are additive and stay within the word. Both are such.
use mathlib.Core.Path.{◌≡◌, ap, ap₂, ◌∙◌}
use mathlib.Core.Bool.{Bool, true, false}
use mathlib.Core.List.{List, [], ◌∷◌}
use Prim.Native.Nat.{ℕ, ◌*◌, ◌^◌}
use native.Mathlib.Nat.{lt_of_le_of_lt, mod-lt}
use lib.Dec.{T}
use lib.Pow.{pow_pos, shr_le}
use lib.Bits.{bit_xor, xor_lt, xor_shr}
use Rattle.laws.specs.Bytes.{Word}
use Rattle.laws.proofs.Xor.{xor_shl_word, xor_swap}
use Rattle.laws.proofs.Words.{Words, words_by}
use Rattle.laws.proofs.Turn.{turn_lt, turn_xor}
use Rattle.laws.proofs.Sums.{Sum, value, balanced, solve_words}
use Rattle.laws.proofs.Sums.Sum.{at, zer, op, ◌⊕◌}
use Rattle.noekeon_steps.specs.declared.Quad.{Quad}
use Rattle.noekeon_steps.specs.declared.Version.{Version}
use Rattle.noekeon_steps.specs.declared.Version.TheVariants.{Published, Earlier}
use Rattle.noekeon_steps.specs.Rule.{Rule, published, earlier, rule, rule_of}
use Rattle.noekeon_steps.specs.Steps.{S, θ, zero_key}

-- ---- four words of 32 bits
abbrev pub word_list : Quad → List ℕ
word_list p = p.p0 ∷ p.p1 ∷ p.p2 ∷ p.p3 ∷ []

abbrev pub Good : Quad → Type 0
Good p = Words 32 (word_list p)

-- ---- θ as sums
record QuadS : Type 0 where
  s0 : Sum
  s1 : Sum
  s2 : Sum
  s3 : Sum

θ_s : QuadS → QuadS → QuadS
θ_s k p =
    let t = op (p.s0 ⊕ p.s2) in
    let q1 = p.s1 ⊕ t ⊕ k.s1 in
    let q3 = p.s3 ⊕ t ⊕ k.s3 in
    let u = op (q1 ⊕ q3) in
    record { s0 = p.s0 ⊕ k.s0 ⊕ u; s1 = q1; s2 = p.s2 ⊕ k.s2 ⊕ u; s3 = q3 }

θ⁻¹_s : QuadS → QuadS → QuadS
θ⁻¹_s k p =
    let t = op (p.s1 ⊕ p.s3) in
    let q0 = p.s0 ⊕ t ⊕ k.s0 in
    let q2 = p.s2 ⊕ t ⊕ k.s2 in
    let u = op (q0 ⊕ q2) in
    record { s0 = q0; s1 = p.s1 ⊕ k.s1 ⊕ u; s2 = q2; s3 = p.s3 ⊕ k.s3 ⊕ u }

P_s : QuadS
P_s = record { s0 = at 0; s1 = at 1; s2 = at 2; s3 = at 3 }

K_s : QuadS
K_s = record { s0 = at 4; s1 = at 5; s2 = at 6; s3 = at 7 }

zero_s : QuadS
zero_s = record { s0 = zer; s1 = zer; s2 = zer; s3 = zer }

abbrev values : Quad → Quad → List ℕ
values p k = p.p0 ∷ p.p1 ∷ p.p2 ∷ p.p3 ∷ k.p0 ∷ k.p1 ∷ k.p2 ∷ k.p3 ∷ []

-- ---- what is asked of a rule
pub record Sound (r : Rule) : Type 0 where
  pub right_adds : (x y : ℕ) → Word 32 x → Word 32 y → r.right8 (bit_xor x y) ≡ bit_xor (r.right8 x) (r.right8 y)
  pub left_adds : (x y : ℕ) → Word 32 x → Word 32 y → r.left8 (bit_xor x y) ≡ bit_xor (r.left8 x) (r.left8 y)
  pub right_lt : (x : ℕ) → Word 32 x → Word 32 (r.right8 x)
  pub left_lt : (x : ℕ) → Word 32 x → Word 32 (r.left8 x)
  pub constants_lt : Words 32 r.constants

pub xor32 : {a b : ℕ} → Word 32 a → Word 32 b → Word 32 (bit_xor a b)
xor32 {a} {b} h l = xor_lt 32 a b h l

module _ (r : Rule) (sound : Sound r) where
  S_adds : (x y : ℕ) → Word 32 x → Word 32 y → S r (bit_xor x y) ≡ bit_xor (S r x) (S r y)
  S_adds x y h l =
      ap₂ (λ (a b : ℕ). bit_xor (bit_xor (bit_xor x y) a) b) (sound.right_adds x y h l) (sound.left_adds x y h l)
      ∙ ap (λ (n : ℕ). bit_xor n (bit_xor (r.left8 x) (r.left8 y))) (xor_swap x y (r.right8 x) (r.right8 y))
      ∙ xor_swap (bit_xor x (r.right8 x)) (bit_xor y (r.right8 y)) (r.left8 x) (r.left8 y)

  S_lt : (t : ℕ) → Word 32 t → Word 32 (S r t)
  S_lt t h = xor32 (xor32 h (sound.right_lt t h)) (sound.left_lt t h)

  values_good : (p k : Quad) → Good p → Good k → Words 32 (values p k)
  values_good p k h g = (h.0, (h.1.0, (h.1.1.0, (h.1.1.1.0, g))))

  -- what stands for the sums, and that they balance word by word
  abbrev valued : Quad → Quad → QuadS → Quad
  valued p k q = record {
    p0 = value (S r) (values p k) q.s0;
    p1 = value (S r) (values p k) q.s1;
    p2 = value (S r) (values p k) q.s2;
    p3 = value (S r) (values p k) q.s3;
  }

  solved : (p k : Quad) → Good p → Good k → (q e : QuadS)
      → T (balanced q.s0 e.s0) → T (balanced q.s1 e.s1) → T (balanced q.s2 e.s2) → T (balanced q.s3 e.s3) → valued p k q ≡ valued p k e
  solved p k h g q e t0 t1 t2 t3 =
      let w = values_good p k h g in
      λ i. record {
        p0 = solve_words 32 (S r) S_adds S_lt q.s0 e.s0 (values p k) w t0 i;
        p1 = solve_words 32 (S r) S_adds S_lt q.s1 e.s1 (values p k) w t1 i;
        p2 = solve_words 32 (S r) S_adds S_lt q.s2 e.s2 (values p k) w t2 i;
        p3 = solve_words 32 (S r) S_adds S_lt q.s3 e.s3 (values p k) w t3 i;
      }

  pub θ_undo : (k p : Quad) → Good k → Good p → θ r (θ r zero_key k) (θ r k p) ≡ p
  unfolding θ_s P_s K_s zero_s
  θ_undo k p g h = solved p k h g (θ_s (θ_s zero_s K_s) (θ_s K_s P_s)) P_s tt tt tt tt

  pub θ_redo : (k p : Quad) → Good k → Good p → θ r k (θ r (θ r zero_key k) p) ≡ p
  unfolding θ_s P_s K_s zero_s
  θ_redo k p g h = solved p k h g (θ_s K_s (θ_s (θ_s zero_s K_s) P_s)) P_s tt tt tt tt

  -- 003's θ⁻¹, as it is printed, is θ under θ(0, K)
  abbrev pub θ⁻¹ : Quad → Quad → Quad
  θ⁻¹ k p =
      let t = S r (bit_xor p.p1 p.p3) in
      let q0 = bit_xor (bit_xor p.p0 t) k.p0 in
      let q2 = bit_xor (bit_xor p.p2 t) k.p2 in
      let u = S r (bit_xor q0 q2) in
      record { p0 = q0; p1 = bit_xor (bit_xor p.p1 k.p1) u; p2 = q2; p3 = bit_xor (bit_xor p.p3 k.p3) u }

  pub θ_inverse : (k p : Quad) → Good k → Good p → θ r (θ r zero_key k) p ≡ θ⁻¹ k p
  unfolding θ_s θ⁻¹_s P_s K_s zero_s
  θ_inverse k p g h = solved p k h g (θ_s (θ_s zero_s K_s) P_s) (θ⁻¹_s K_s P_s) tt tt tt tt

  pub θ_good : (k p : Quad) → Good k → Good p → Good (θ r k p)
  θ_good k p g h =
      let t = S_lt (bit_xor p.p0 p.p2) (xor32 h.0 h.1.1.0) in
      let q1 = xor32 (xor32 h.1.0 t) g.1.0 in
      let q3 = xor32 (xor32 h.1.1.1.0 t) g.1.1.1.0 in
      let u = S_lt _ (xor32 q1 q3) in
      (xor32 (xor32 h.0 g.0) u, (q1, (xor32 (xor32 h.1.1.0 g.1.1.0) u, (q3, tt))))

-- ---- the two rules
rotations : Sound published
rotations = record {
  right_adds = turn_xor 8 24;
  left_adds = turn_xor 24 8;
  right_lt = turn_lt 8 24;
  left_lt = turn_lt 24 8;
  constants_lt = words_by 32 published.constants tt;
}

shifts : Sound earlier
shifts = record {
  right_adds = λ x y h l. xor_shr x y 8;
  left_adds = λ x y h l. xor_shl_word 32 x y 8;
  right_lt = λ x h. lt_of_le_of_lt (shr_le x 8) h;
  left_lt = λ x h. mod-lt (x * 2 ^ 8) (pow_pos 32);
  constants_lt = words_by 32 earlier.constants tt;
}

pub sound : (b : Bool) → Sound (rule b)
sound true = rotations
sound false = shifts

pub sound_of : (v : Version) → Sound (rule_of v)
sound_of Published = rotations
sound_of Earlier = shifts
