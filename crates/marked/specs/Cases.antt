-- 01, 'Marked cases': one table, in its order and with its names, of what the definitions give and what they shall give; a case is a number or a list of them.
-- C13 is that of 02, request 2, and speaks of number 3; 01's own stands behind it, for number 4.
use Rattle.std.specs.Prelude.{◌≡◌, List, [], ◌∷◌, ℕ}
use Rattle.laws.specs.Places.{tab}
use Rattle.noekeon_steps.specs.declared.Quad.{Quad}
use Rattle.noekeon_steps.specs.Rule.{published, earlier}
use Rattle.noekeon_steps.specs.Steps.{θ, zero_key, γ}
use Rattle.e2_table.specs.Substitution as e2-table
use Rattle.e2_steps.specs.Steps as e2
use Rattle.hierocrypt3_tables.specs.Operations as hierocrypt3
use Rattle.hierocrypt3_keys.specs.Operations as hierocrypt3-keys

abbrev quad : ℕ → ℕ → ℕ → ℕ → Quad
quad a b c d = record { p0 = a; p1 = b; p2 = c; p3 = d }

abbrev listed : Quad → List ℕ
listed p = p.p0 ∷ p.p1 ∷ p.p2 ∷ p.p3 ∷ []

pub data Name : Type 0 where
  C1 : Name
  C2 : Name
  C3 : Name
  C4 : Name
  C5 : Name
  C6 : Name
  C7 : Name
  C8 : Name
  C9 : Name
  C10 : Name
  C11 : Name
  C12 : Name
  C13 : Name
  C13_earlier : Name

unfoldable pub cases : List (Name × List ℕ × List ℕ)
cases =
    (C1, hierocrypt3.s 0x00 ∷ [], 0x07 ∷ [])
    ∷ (C2, hierocrypt3.s 0x01 ∷ [], 0xfc ∷ [])
    ∷ (C3, e2-table.s 0 ∷ [], 225 ∷ [])
    ∷ (C4, e2-table.s 1 ∷ [], 66 ∷ [])
    ∷ (C5, e2.inverse 3 ∷ [], 2863311531 ∷ [])
    ∷ (C6, e2.BRL (tab 8 (λ j. j)), 1 ∷ 2 ∷ 3 ∷ 4 ∷ 5 ∷ 6 ∷ 7 ∷ 0 ∷ [])
    ∷ (C7, e2.BP (tab 16 (λ j. j)), 0 ∷ 5 ∷ 10 ∷ 15 ∷ 4 ∷ 9 ∷ 14 ∷ 3 ∷ 8 ∷ 13 ∷ 2 ∷ 7 ∷ 12 ∷ 1 ∷ 6 ∷ 11 ∷ [])
    ∷ (C8, e2.P (1 ∷ 0 ∷ 0 ∷ 0 ∷ 0 ∷ 0 ∷ 0 ∷ 0 ∷ []), 0 ∷ 1 ∷ 1 ∷ 1 ∷ 1 ∷ 1 ∷ 0 ∷ 1 ∷ [])
    ∷ (C9, e2.P (0 ∷ 0 ∷ 0 ∷ 0 ∷ 0 ∷ 0 ∷ 0 ∷ 1 ∷ []), 0 ∷ 1 ∷ 1 ∷ 1 ∷ 0 ∷ 0 ∷ 1 ∷ 1 ∷ [])
    ∷ (C10, hierocrypt3-keys.P 1 (1 ∷ 2 ∷ 4 ∷ 8 ∷ []), 5 ∷ 10 ∷ 14 ∷ 13 ∷ [])
    ∷ (C11, hierocrypt3.mds_l (0x01 ∷ 0 ∷ 0 ∷ 0 ∷ []), 0xc4 ∷ 0x8b ∷ 0xc8 ∷ 0x65 ∷ [])
    ∷ (C12, listed (γ (quad 0 0 0 0)), 0xffffffff ∷ 0xffffffff ∷ 0xffffffff ∷ 0 ∷ [])
    ∷ (C13, listed (θ published zero_key (quad 1 0 0 0)), 1 ∷ 0x1000101 ∷ 0 ∷ 0x1000101 ∷ [])
    ∷ (C13_earlier, listed (θ earlier zero_key (quad 1 0 0 0)), 1 ∷ 0x101 ∷ 0 ∷ 0x101 ∷ [])
    ∷ []

-- every case gives what it shall
abbrev pub Hold : List (Name × List ℕ × List ℕ) → Type 0
Hold [] = Unit {0}
Hold (c ∷ cs) = (c.1 ≡ c.2) × Hold cs
