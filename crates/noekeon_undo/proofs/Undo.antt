-- Deciphering undoes enciphering and the reverse, for all keys (003; 02, request 2): one proof for every rule whose shifts are additive and stay within the word and
-- whose constants are words. θ is undone by θ with θ(0, K) in the place of K, and a constant by itself; γ undoes itself; π1 and π2 undo one another.
use mathlib.Core.Path.{◌≡◌, refl, ap, ◌∙◌}
use mathlib.Core.Bool.{Bool}
use mathlib.Core.List.{List}
use Prim.Native.Nat.{ℕ, ◌-◌}
use lib.Pow.{pow_pos}
use lib.ListN.{get_or}
use Rattle.laws.specs.Bytes.{Bytes}
use Rattle.laws.specs.Rounds.{steps}
use Rattle.laws.specs.Inverse.{Inverse}
use Rattle.laws.proofs.Xor.{xor_cancel_r}
use Rattle.laws.proofs.Words.{Words, word_at_lem, words_each, each_words}
use Rattle.laws.proofs.BigEndian.{word_at_lt, words_of-bytes_of, bytes_of-words_of, bytes_of_bytes}
use Rattle.laws.proofs.Turn.{turn_lt, turn_undo}
use Rattle.laws.proofs.Bitwise.{Expr, by_bits, eval_lt}
use Rattle.laws.proofs.Bitwise.Expr.{var, not, and, or, xor}
use Rattle.laws.proofs.Rounds.{steps_keep, mirrored_undo, mirrored_redo}
use Rattle.laws.proofs.Inverse.{carried}
use Rattle.noekeon_steps.specs.declared.Quad.{Quad}
use Rattle.noekeon_steps.specs.Rule.{Rule, rule}
use Rattle.noekeon_steps.specs.Steps.{first_xored, θ, zero_key, γ, π1, π2}
use Rattle.noekeon_steps.proofs.Linear.{word_list, Good, Sound, sound, xor32, θ_undo, θ_redo, θ_good}
use Rattle.noekeon.specs.Noekeon.{constant, mixed, round, cipher, round⁻, cipher⁻, load, store, encipher, decipher}

-- ---- γ, as expressions whose identities the bits decide
record QuadE : Type 0 where
  e0 : Expr
  e1 : Expr
  e2 : Expr
  e3 : Expr

γ_e : QuadE → QuadE
γ_e p =
    let q1 = xor p.e1 (not (or p.e2 p.e3)) in
    let r3 = xor p.e0 (and q1 p.e2) in
    let r2 = xor (xor (xor p.e3 q1) p.e2) r3 in
    let r1 = xor q1 (not (or r2 r3)) in
    record { e0 = xor p.e3 (and r1 r2); e1 = r1; e2 = r2; e3 = r3 }

vars_e : QuadE
vars_e = record { e0 = var 0; e1 = var 1; e2 = var 2; e3 = var 3 }

pub γ-γ : (p : Quad) → Good p → γ (γ p) ≡ p
unfolding γ_e vars_e
γ-γ p h =
    let g : QuadE = γ_e (γ_e vars_e) in
    λ i. record {
      p0 = by_bits g.e0 (var 0) 32 (word_list p) tt h i;
      p1 = by_bits g.e1 (var 1) 32 (word_list p) tt h i;
      p2 = by_bits g.e2 (var 2) 32 (word_list p) tt h i;
      p3 = by_bits g.e3 (var 3) 32 (word_list p) tt h i;
    }

γ_good : (p : Quad) → Good p → Good (γ p)
unfolding γ_e vars_e
γ_good p h =
    let g : QuadE = γ_e vars_e in
    (eval_lt 32 (word_list p) g.e0 h, (eval_lt 32 (word_list p) g.e1 h, (eval_lt 32 (word_list p) g.e2 h, (eval_lt 32 (word_list p) g.e3 h, tt))))

-- ---- π1, π2
π1_good : (p : Quad) → Good p → Good (π1 p)
π1_good p h = (h.0, (turn_lt 31 1 p.p1 h.1.0, (turn_lt 27 5 p.p2 h.1.1.0, (turn_lt 30 2 p.p3 h.1.1.1.0, tt))))

π2_good : (p : Quad) → Good p → Good (π2 p)
π2_good p h = (h.0, (turn_lt 1 31 p.p1 h.1.0, (turn_lt 5 27 p.p2 h.1.1.0, (turn_lt 2 30 p.p3 h.1.1.1.0, tt))))

pub π2-π1 : (p : Quad) → Good p → π2 (π1 p) ≡ p
π2-π1 p h = λ i. record {
  p0 = p.p0;
  p1 = turn_undo 31 1 p.p1 h.1.0 i;
  p2 = turn_undo 27 5 p.p2 h.1.1.0 i;
  p3 = turn_undo 30 2 p.p3 h.1.1.1.0 i;
}

pub π1-π2 : (p : Quad) → Good p → π1 (π2 p) ≡ p
π1-π2 p h = λ i. record {
  p0 = p.p0;
  p1 = turn_undo 1 31 p.p1 h.1.0 i;
  p2 = turn_undo 5 27 p.p2 h.1.1.0 i;
  p3 = turn_undo 2 30 p.p3 h.1.1.1.0 i;
}

-- ---- what follows θ in a round undoes itself
mixed_good : (p : Quad) → Good p → Good (mixed p)
mixed_good p h = π2_good (γ (π1 p)) (γ_good (π1 p) (π1_good p h))

mixed-mixed : (p : Quad) → Good p → mixed (mixed p) ≡ p
mixed-mixed p h =
    let h₁ : Good (π1 p) = π1_good p h in
    ap (λ (q : Quad). π2 (γ q)) (π1-π2 (γ (π1 p)) (γ_good (π1 p) h₁)) ∙ ap π2 (γ-γ (π1 p) h₁) ∙ π2-π1 p h

module _ (r : Rule) (s : Sound r) where
  zero_good : Good zero_key
  zero_good = (pow_pos 32, (pow_pos 32, (pow_pos 32, (pow_pos 32, tt))))

  -- ---- a constant and θ, and θ under another key and the constant
  xored_good : (i : ℕ) (p : Quad) → Good p → Good (first_xored (constant r i) p)
  xored_good i p h = (xor32 h.0 (word_at_lem 32 r.constants i s.constants_lt), h.1)

  xored_twice : (c : ℕ) (p : Quad) → first_xored c (first_xored c p) ≡ p
  xored_twice c p = λ i. record { p0 = xor_cancel_r p.p0 c i; p1 = p.p1; p2 = p.p2; p3 = p.p3 }

  abbrev forth : Quad → ℕ → Quad → Quad
  forth k i p = θ r k (first_xored (constant r i) p)

  abbrev back : Quad → ℕ → Quad → Quad
  back k i p = first_xored (constant r i) (θ r k p)

  forth_good : (k : Quad) → Good k → (i : ℕ) (p : Quad) → Good p → Good (forth k i p)
  forth_good k g i p h = θ_good r s k (first_xored (constant r i) p) g (xored_good i p h)

  back_good : (k : Quad) → Good k → (i : ℕ) (p : Quad) → Good p → Good (back k i p)
  back_good k g i p h = xored_good i (θ r k p) (θ_good r s k p g h)

  back-forth : (k : Quad) → Good k → (i : ℕ) (p : Quad) → Good p → back (θ r zero_key k) i (forth k i p) ≡ p
  back-forth k g i p h =
      let c = constant r i in
      ap (first_xored c) (θ_undo r s k (first_xored c p) g (xored_good i p h)) ∙ xored_twice c p

  forth-back : (k : Quad) → Good k → (i : ℕ) (p : Quad) → Good p → forth k i (back (θ r zero_key k) i p) ≡ p
  forth-back k g i p h = ap (θ r k) (xored_twice (constant r i) (θ r (θ r zero_key k) p)) ∙ θ_redo r s k p g h

  -- ---- the cipher on words
  cipher_good : (k p : Quad) → Good k → Good p → Good (cipher r k p)
  unfolding cipher
  cipher_good k p g h =
      forth_good k g 16 (steps 16 (round r k) p)
      (steps_keep Good 16 (round r k) (λ i q l w. mixed_good (forth k i q) (forth_good k g i q w)) p h)

  cipher⁻_good : (k p : Quad) → Good k → Good p → Good (cipher⁻ r k p)
  unfolding cipher⁻
  cipher⁻_good k p g h =
      back_good k g 0 (steps 16 (round⁻ r k) p)
      (steps_keep Good 16 (round⁻ r k) (λ i q l w. mixed_good (back k (16 - i) q) (back_good k g (16 - i) q w)) p h)

  pub cipher_inverse : (k : Quad) → Good k → Inverse Good (cipher r k) (cipher⁻ r (θ r zero_key k))
  unfolding cipher cipher⁻
  cipher_inverse k g =
      let k⁻ : Quad = θ r zero_key k in
      let g⁻ : Good k⁻ = θ_good r s zero_key k zero_good g in
      record {
        on = λ p h. cipher_good k p g h;
        off = λ p h. cipher⁻_good k⁻ p g⁻ h;
        undo = mirrored_undo Good mixed (forth k) (back k⁻) mixed_good mixed-mixed (forth_good k g) (back-forth k g) 16;
        redo = mirrored_redo Good mixed (forth k) (back k⁻) mixed_good mixed-mixed (back_good k⁻ g⁻) (forth-back k g) 16;
      }

-- ---- bytes and words
load_good : (b : List ℕ) → Words 8 b → Good (load b)
load_good b h = (word_at_lt b 0 h, (word_at_lt b 1 h, (word_at_lt b 2 h, (word_at_lt b 3 h, tt))))

store_bytes : (p : Quad) → Good p → Bytes 16 (store p)
store_bytes p h = bytes_of_bytes 4 (word_list p) (each_words 32 4 (word_list p) refl h)

store-load : (b : List ℕ) → Bytes 16 b → store (load b) ≡ b
store-load b h = bytes_of-words_of 4 b h

abbrev quad : ℕ → ℕ → ℕ → ℕ → Quad
quad a b c d = record { p0 = a; p1 = b; p2 = c; p3 = d }

load_store : (p : Quad) → Good p → load (store p) ≡ p
load_store p h =
    ap (λ (l : List ℕ). quad (get_or l 0 0) (get_or l 1 0) (get_or l 2 0) (get_or l 3 0))
    (words_of-bytes_of 4 (word_list p) (each_words 32 4 (word_list p) refl h))

-- ---- the cipher on bytes, for any round keys
pub encipher_inverse : (b : Bool) (keys : List ℕ) → Words 8 keys → Inverse (Bytes 16) (encipher (rule b) keys) (decipher (rule b) keys)
unfolding encipher decipher
encipher_inverse b keys h =
    carried load store (λ l w. load_good l (words_each 8 16 l w)) store_bytes store-load load_store
    (cipher_inverse (rule b) (sound b) (load keys) (load_good keys h))
