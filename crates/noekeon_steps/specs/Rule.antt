-- What the two Noekeons differ in. Number 3 is as its designers published it (02, request 2), number 4 as 003 has it, where 01 ('Noekeon') repairs nothing.
use Rattle.std.specs.Prelude.{Bool, true, false, List, [], ◌∷◌, ℕ, ◌*◌, ◌/◌, ◌%◌, ◌^◌, replicate}
use Rattle.laws.specs.Turn.{rol, ror}
use Rattle.noekeon_steps.specs.declared.Version.{Version}
use Rattle.noekeon_steps.specs.declared.Version.TheVariants.{Published, Earlier}

pub record Rule : Type 0 where
  -- the two shifts by 8 in S
  pub right8 : ℕ → ℕ
  pub left8 : ℕ → ℕ
  -- what the first word is xored with: constant i before θ of round i, 0 to 15, and constant 16 before the last θ
  pub constants : List ℕ

-- 02, request 2: both shifts are rotations
abbrev pub published : Rule
published = record {
  right8 = ror 32 8;
  left8 = rol 32 8;
  constants =
      0x80 ∷ 0x1b ∷ 0x36 ∷ 0x6c ∷ 0xd8 ∷ 0xab ∷ 0x4d ∷ 0x9a ∷ 0x2f ∷ 0x5e ∷ 0xbc ∷ 0x63 ∷ 0xc6 ∷ 0x97 ∷ 0x35 ∷ 0x6a ∷ 0xd4 ∷ [];
}

-- 003: both are plain shifts within the word; it knows no constants
abbrev pub earlier : Rule
earlier = record { right8 = λ t. t / 2 ^ 8; left8 = λ t. t * 2 ^ 8 % 2 ^ 32; constants = replicate 17 0 }

-- by whether it is the published one
abbrev pub rule : Bool → Rule
rule true = published
rule false = earlier

-- by the code's name of it
abbrev pub rule_of : Version → Rule
rule_of Published = published
rule_of Earlier = earlier
