-- Noekeon, direct key: 003, in its names and order, with the constants of 02, request 2. The steps of a round, and what the two rules differ in, are in noekeon_steps.
use Rattle.std.specs.Prelude.{List, [], ◌∷◌, ℕ, ◌-◌, get_or}
use Rattle.laws.specs.Bytes.{word_at, bytes_of}
use Rattle.laws.specs.Rounds.{steps}
use Rattle.noekeon_steps.specs.declared.Quad.{Quad}
use Rattle.noekeon_steps.specs.Rule.{Rule}
use Rattle.noekeon_steps.specs.Steps.{first_xored, θ, zero_key, γ, π1, π2}

-- ---- the cipher: R = 16 rounds, then θ
abbrev pub constant : Rule → ℕ → ℕ
constant r i = get_or r.constants i 0

-- what follows θ in a round
abbrev pub mixed : Quad → Quad
mixed p = π2 (γ (π1 p))

-- before θ of round i stands constant i
abbrev pub round : Rule → Quad → ℕ → Quad → Quad
round r k i p = mixed (θ r k (first_xored (constant r i) p))

-- and before the last θ constant 16
unfoldable pub cipher : Rule → Quad → Quad → Quad
cipher r k p = θ r k (first_xored (constant r 16) (steps 16 (round r k) p))

-- ---- the cipher backwards: the same rounds, under another key, with constant 16 after the first θ
abbrev pub round⁻ : Rule → Quad → ℕ → Quad → Quad
round⁻ r k i p = mixed (first_xored (constant r (16 - i)) (θ r k p))

-- down to constant 0 after the last
unfoldable pub cipher⁻ : Rule → Quad → Quad → Quad
cipher⁻ r k p = first_xored (constant r 0) (θ r k (steps 16 (round⁻ r k) p))

-- ---- on bytes: K stands at the front of the round keys
abbrev pub load : List ℕ → Quad
load b = record { p0 = word_at b 0; p1 = word_at b 1; p2 = word_at b 2; p3 = word_at b 3 }

abbrev pub store : Quad → List ℕ
store p = bytes_of (p.p0 ∷ p.p1 ∷ p.p2 ∷ p.p3 ∷ [])

unfoldable pub encipher : Rule → List ℕ → List ℕ → List ℕ
encipher r keys block = store (cipher r (load keys) (load block))

-- with θ(0, K), 003's K^(d), in the place of K
unfoldable pub decipher : Rule → List ℕ → List ℕ → List ℕ
decipher r keys block = store (cipher⁻ r (θ r zero_key (load keys)) (load block))
