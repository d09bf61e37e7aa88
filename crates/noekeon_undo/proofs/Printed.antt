-- The earlier rule is 003 as it is printed: its constants are zeros and fall away, and both directions are the one loop.
use mathlib.Core.Path.{◌≡◌, refl, ap, ◌∙◌}
use Prim.Native.Nat.{ℕ, zero, suc, ◌-◌}
use lib.ListN.{get_or, replicate}
use lib.Bits.{xor_zero_r}
use Rattle.laws.specs.Rounds.{steps}
use Rattle.noekeon_steps.specs.declared.Quad.{Quad}
use Rattle.noekeon_steps.specs.Rule.{earlier}
use Rattle.noekeon_steps.specs.Steps.{first_xored, θ, γ, π1, π2}
use Rattle.noekeon.specs.Noekeon.{constant, mixed, round, cipher, round⁻, cipher⁻}

-- for i := 1 to R do { θ(K, P); π1(P); γ(P); π2(P) }; θ(K, P)
abbrev pub printed : Quad → Quad → Quad
printed k p = θ earlier k (steps 16 (λ i q. π2 (γ (π1 (θ earlier k q)))) p)

zeros_at : (n i : ℕ) → ◌≡◌ {A = ℕ} (get_or (replicate n 0) i 0) 0
zeros_at zero i = refl
zeros_at (suc n) zero = refl
zeros_at (suc n) (suc i) = zeros_at n i

xored_zero : (i : ℕ) (p : Quad) → first_xored (constant earlier i) p ≡ p
xored_zero i p =
    ap (λ (c : ℕ). first_xored c p) (zeros_at 17 i) ∙ (λ j. record { p0 = xor_zero_r p.p0 j; p1 = p.p1; p2 = p.p2; p3 = p.p3 })

-- rounds that are alike
alike : (n : ℕ) (f g : ℕ → Quad → Quad) → ((i : ℕ) (p : Quad) → f i p ≡ g i p) → (p : Quad) → steps n f p ≡ steps n g p
alike zero f g e p = refl
alike (suc n) f g e p = ap (f n) (alike n f g e p) ∙ e n (steps n g p)

pub cipher-printed : (k p : Quad) → cipher earlier k p ≡ printed k p
unfolding cipher
cipher-printed k p =
    ap (θ earlier k)
    (xored_zero 16 (steps 16 (round earlier k) p)
    ∙ alike 16 (round earlier k) (λ i q. mixed (θ earlier k q)) (λ i q. ap (λ (q : Quad). mixed (θ earlier k q)) (xored_zero i q)) p)

pub cipher⁻-printed : (k p : Quad) → cipher⁻ earlier k p ≡ printed k p
unfolding cipher⁻
cipher⁻-printed k p =
    xored_zero 0 (θ earlier k (steps 16 (round⁻ earlier k) p))
    ∙ ap (θ earlier k)
    (alike 16 (round⁻ earlier k) (λ i q. mixed (θ earlier k q)) (λ i q. ap mixed (xored_zero (16 - i) (θ earlier k q))) p)
