-- The constants of Hierocrypt-3's key schedule: 002, section 2.3.1, and which of them each step takes, its tables 1 to 3.
use Rattle.std.specs.Prelude.{List, [], ◌∷◌, ◌++◌, ℕ, zero, suc, ◌-◌, ◌/◌, get_or}

-- one of three, for a key of 16, 24 or 32 bytes
abbrev pub third : {A : Type 0} → ℕ → A → A → A → A
third zero a b c = a
third (suc zero) a b c = b
third (suc (suc n)) a b c = c

abbrev pub by_length : {A : Type 0} → ℕ → A → A → A → A
by_length len a b c = third (len / 8 - 2) a b c

-- ---- section 2.3.1. 000 misprints H3; 002's print of G0 has lost digits, which 01 has
abbrev pub H0 : List ℕ
H0 = 0x5a ∷ 0x82 ∷ 0x79 ∷ 0x99 ∷ []

abbrev pub H1 : List ℕ
H1 = 0x6e ∷ 0xd9 ∷ 0xeb ∷ 0xa1 ∷ []

abbrev pub H2 : List ℕ
H2 = 0x8f ∷ 0x1b ∷ 0xbc ∷ 0xdc ∷ []

abbrev pub H3 : List ℕ
H3 = 0xca ∷ 0x62 ∷ 0xc1 ∷ 0xd6 ∷ []

abbrev pub G0 : ℕ → List ℕ
G0 i = get_or ((H3 ++ H0) ∷ (H2 ++ H1) ∷ (H1 ++ H3) ∷ (H0 ++ H2) ∷ (H2 ++ H3) ∷ (H1 ++ H0) ∷ []) i []

-- ---- tables 1 to 3: which G0 is the constant of step t = 1, 2, ..
abbrev pub row : ℕ → List ℕ
row len =
    by_length len
    (0 ∷ 1 ∷ 2 ∷ 3 ∷ 3 ∷ 2 ∷ 1 ∷ [])
    (1 ∷ 0 ∷ 3 ∷ 2 ∷ 2 ∷ 3 ∷ 0 ∷ 1 ∷ [])
    (4 ∷ 0 ∷ 2 ∷ 1 ∷ 3 ∷ 3 ∷ 1 ∷ 2 ∷ 0 ∷ [])

abbrev pub constant : ℕ → ℕ → List ℕ
constant len t = G0 (get_or (row len) (t - 1) 0)
