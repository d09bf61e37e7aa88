-- What the characters of a text are. Characters are ASCII numbers: tab 9, space 32, quote 34, comma 44, point 46; line feed 10, carriage return 13.
use Rattle.std.specs.Prelude.{◌≡◌, true, List, [], ◌∷◌, ℕ, ◌≤◌, ◌<◌, length}
use Rattle.cells.specs.Cells.{Cell, cells, all_good, any_filled, text_of}

-- every one of a list is such
abbrev pub Only : {A : Type 0} → (A → Type 0) → List A → Type 0
Only P [] = Unit {0}
Only P (x ∷ xs) = P x × Only P xs

-- 0 to 9
abbrev pub Digit : ℕ → Type 0
Digit c = (48 ≤ c) × (c ≤ 57)

-- 0 to 9, or a point
abbrev pub DigitOrPoint : ℕ → Type 0
DigitOrPoint c = (46 ≤ c) × (c ≤ 57) × (c ≡ 47 → ⊥)

-- a to z
abbrev pub Letter : ℕ → Type 0
Letter c = (97 ≤ c) × (c ≤ 122)

-- no comma, quote, space or tab
pub record PlainCharacter (c : ℕ) : Type 0 where
  pub no_comma : c ≡ 44 → ⊥
  pub no_quote : c ≡ 34 → ⊥
  pub no_space : c ≡ 32 → ⊥
  pub no_tab : c ≡ 9 → ⊥

-- a text of such characters, at least one
pub record Plain (t : List ℕ) : Type 0 where
  pub some : 0 < length t
  pub only : Only PlainCharacter t

-- the cell of such a text, before what stands behind it
abbrev pub good_cell : (t rest : List ℕ) → Cell
good_cell t rest = record { good = true; text = t; rest = rest }

abbrev pub NoFeed : ℕ → Type 0
NoFeed c = c ≡ 10 → ⊥

-- no line feed or carriage return
pub record NoBreak (c : ℕ) : Type 0 where
  pub no_feed : c ≡ 10 → ⊥
  pub no_return : c ≡ 13 → ⊥

-- a line of six good cells, not all of them empty, and their texts
pub record SixCells (line a b c d e f : List ℕ) : Type 0 where
  pub six : length (cells line) ≡ 6
  pub good : all_good (cells line) ≡ true
  pub filled : any_filled (cells line) ≡ true
  pub text_0 : text_of (cells line) 0 ≡ a
  pub text_1 : text_of (cells line) 1 ≡ b
  pub text_2 : text_of (cells line) 2 ≡ c
  pub text_3 : text_of (cells line) 3 ≡ d
  pub text_4 : text_of (cells line) 4 ≡ e
  pub text_5 : text_of (cells line) 5 ≡ f
