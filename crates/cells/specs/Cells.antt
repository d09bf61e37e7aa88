-- A line of a table cut into cells (docs/BENCH.md, 'The table'). Characters are ASCII numbers: tab 9, space 32, quote 34, comma 44.
use Rattle.std.specs.Prelude.{Bool, true, false, ◌&&◌, ◌||◌, List, [], ◌∷◌, reverse, ℕ, zero, suc, ◌-◌, eqb, leb, ltb, length, take, drop, get_or}
use Rattle.laws.specs.Choice.{choose}

-- ---- parts of a text
abbrev pub between : ℕ → ℕ → List ℕ → List ℕ
between from to l = take (to - from) (drop from l)

-- nothing, where the places are not in order
unfoldable pub part : ℕ → ℕ → List ℕ → List ℕ
part from to l = choose (leb to (length l)) (between from to l) []

-- ---- blanks taken off
unfoldable pub is_blank : ℕ → Bool
is_blank c = eqb c 32 || eqb c 9

abbrev pub behind_blanks : List ℕ → List ℕ
behind_blanks [] = []
behind_blanks (c ∷ l) = choose (is_blank c) (behind_blanks l) (c ∷ l)

unfoldable pub before_blanks : List ℕ → List ℕ
before_blanks l = reverse (behind_blanks (reverse l))

abbrev pub trimmed : List ℕ → List ℕ
trimmed l = before_blanks (behind_blanks l)

-- ---- one cell
abbrev pub begins : ℕ → List ℕ → Bool
begins c [] = false
begins c (x ∷ l) = eqb x c

-- the characters before the first comma or quote
abbrev pub plain : List ℕ → List ℕ
plain [] = []
plain (c ∷ l) = choose (eqb c 44 || eqb c 34) [] (c ∷ plain l)

-- the characters before the closing quote, the first that is not doubled. A doubled one stays two characters, as it stands in the line
abbrev pub in_quotes : List ℕ → List ℕ
in_quotes [] = []
in_quotes (c ∷ []) = choose (eqb c 34) [] (c ∷ [])
in_quotes (c ∷ d ∷ l) = choose (eqb c 34) (choose (eqb d 34) (c ∷ d ∷ in_quotes l) []) (c ∷ in_quotes (d ∷ l))

-- whether no quote is out of place, the text, and what stands behind: from the comma on, or nothing
pub record Cell : Type 0 where
  pub good : Bool
  pub text : List ℕ
  pub rest : List ℕ

-- a cell with such a quote has no text, and is the last of its line
abbrev pub out_of_place : Cell
out_of_place = record { good = false; text = []; rest = [] }

-- a cell ends at a comma or with its line
abbrev pub ends : List ℕ → Bool
ends [] = true
ends (c ∷ l) = eqb c 44

unfoldable pub ended : List ℕ → List ℕ → Cell
ended text rest = choose (ends rest) (record { good = true; text = text; rest = rest }) out_of_place

unfoldable pub bare : List ℕ → Cell
bare l = ended (before_blanks (plain l)) (drop (length (plain l)) l)

-- behind the opening quote
unfoldable pub quoted : List ℕ → Cell
quoted l =
    let closing = drop (length (in_quotes l)) l in
    choose (begins 34 closing) (ended (in_quotes l) (behind_blanks (drop 1 closing))) out_of_place

unfoldable pub cell : List ℕ → Cell
cell l =
    let start = behind_blanks l in
    choose (begins 34 start) (quoted (drop 1 start)) (bare start)

-- ---- the cells of a line
abbrev pub behind_comma : (List ℕ → List Cell) → List ℕ → List Cell
behind_comma further [] = []
behind_comma further (comma ∷ l) = further l

-- the first n cells of a text
abbrev pub at_most : ℕ → List ℕ → List Cell
at_most zero l = []
at_most (suc n) l = cell l ∷ behind_comma (at_most n) (cell l).rest

-- all of them: a line has at most one cell more than characters
unfoldable pub cells : List ℕ → List Cell
cells l = at_most (suc (length l)) l

abbrev pub all_good : List Cell → Bool
all_good [] = true
all_good (c ∷ cs) = c.good && all_good cs

abbrev pub any_filled : List Cell → Bool
any_filled [] = false
any_filled (c ∷ cs) = ltb 0 (length c.text) || any_filled cs

-- nothing, where there are fewer
abbrev pub text_of : List Cell → ℕ → List ℕ
text_of cs n = (get_or cs n out_of_place).text
