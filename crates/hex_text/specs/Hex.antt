-- A text of hex digits: two to a byte, the first the higher, white space ignored. Characters are ASCII numbers.
use Rattle.std.specs.Prelude.{◌≡◌, Bool, false, List, [], ◌∷◌, ℕ, suc, ◌+◌, ◌*◌, eqb, ltb, length}
use Rattle.laws.specs.Choice.{choose}

-- the place of a character in a list, or the list's length
abbrev pub place : ℕ → List ℕ → ℕ
place c [] = 0
place c (x ∷ xs) = choose (eqb c x) 0 (suc (place c xs))

-- tab, line feed, vertical tab, form feed, carriage return, space
abbrev pub spaces : List ℕ
spaces = 9 ∷ 10 ∷ 11 ∷ 12 ∷ 13 ∷ 32 ∷ []

-- 0 to 9, then A to F; and then a to f
abbrev pub capitals : List ℕ
capitals =
    0x30 ∷ 0x31 ∷ 0x32 ∷ 0x33 ∷ 0x34 ∷ 0x35 ∷ 0x36 ∷ 0x37 ∷ 0x38 ∷ 0x39
    ∷ 0x41 ∷ 0x42 ∷ 0x43 ∷ 0x44 ∷ 0x45 ∷ 0x46 ∷ []

abbrev pub smalls : List ℕ
smalls =
    0x30 ∷ 0x31 ∷ 0x32 ∷ 0x33 ∷ 0x34 ∷ 0x35 ∷ 0x36 ∷ 0x37 ∷ 0x38 ∷ 0x39
    ∷ 0x61 ∷ 0x62 ∷ 0x63 ∷ 0x64 ∷ 0x65 ∷ 0x66 ∷ []

unfoldable pub white : ℕ → Bool
white c = ltb (place c spaces) 6

-- a digit's value is its place, and that of every other character is 16
unfoldable pub value : ℕ → ℕ
value c = choose (ltb (place c capitals) 16) (place c capitals) (place c smalls)

-- neither white space nor a digit
unfoldable pub bad : ℕ → Bool
bad c = choose (white c) false (eqb (value c) 16)

-- the place of the first bad character, or the text's length
abbrev pub first_bad : List ℕ → ℕ
first_bad [] = 0
first_bad (c ∷ text) = choose (bad c) 0 (suc (first_bad text))

-- the values of the characters that are not white space
abbrev pub digits : List ℕ → List ℕ
digits [] = []
digits (c ∷ text) = choose (white c) (digits text) (value c ∷ digits text)

abbrev pub byte : ℕ → ℕ → ℕ
byte high low = high * 16 + low

-- two digits to a byte; a last one without a partner is left out
abbrev pub joined : List ℕ → List ℕ
joined [] = []
joined (d ∷ []) = []
joined (high ∷ low ∷ ds) = byte high low ∷ joined ds

-- no character is bad
abbrev pub Good : List ℕ → Type 0
Good text = first_bad text ≡ length text
