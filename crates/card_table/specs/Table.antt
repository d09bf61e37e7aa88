-- What a table says, line by line (docs/BENCH.md, 'The table'). Characters are ASCII numbers: line feed 10, carriage return 13.
use Rattle.std.specs.Prelude.{Option, Some, None, Bool, true, false, ◌&&◌, List, [], ◌∷◌, ℕ, zero, suc, ◌+◌, ◌-◌, eqb, length, take, drop, get_or}
use Rattle.laws.specs.Choice.{choose}
use Rattle.runs.specs.Same.{same}
use Rattle.refusals.specs.Refusals.{done}
use Rattle.card_slots.specs.Find.{found}
use Rattle.card.specs.Put.{put_answer, put_card}
use Rattle.card_fields.specs.Fields.{slot_of}
use Rattle.card_fields.specs.declared.Fields.{Fields}
use Rattle.spelling.specs.Word.{spells}
use Rattle.cells.specs.Cells.{cells, all_good, any_filled, text_of}
use Rattle.record_words.specs.Record.{number_in, kind_of, record_of}
use Rattle.card_rules.specs.declared.Field.TheVariants.{Recipe, Segment, Target, Rate, Hold}

-- ---- lines
-- behind a byte-order mark
unfoldable pub behind_mark : List ℕ → List ℕ
behind_mark t = choose (same (take 3 t) (239 ∷ 187 ∷ 191 ∷ [])) (drop 3 t) t

-- a character more at the front of the first line
abbrev pub in_front : ℕ → List (List ℕ) → List (List ℕ)
in_front c [] = (c ∷ []) ∷ []
in_front c (l ∷ ls) = (c ∷ l) ∷ ls

-- each ends at a line feed; what stands behind the last one is a line where it is something
abbrev pub lines : List ℕ → List (List ℕ)
lines [] = []
lines (c ∷ t) = choose (eqb c 10) ([] ∷ lines t) (in_front c (lines t))

-- without a carriage return at its end
unfoldable pub without_return : List ℕ → List ℕ
without_return l = choose (eqb (get_or l (length l - 1) 0) 13) (take (length l - 1) l) l

-- ---- the header, which is itself a line of cells
-- recipe,segment,kind,target,rate,hold
abbrev pub header : List ℕ
header =
    114 ∷ 101 ∷ 99 ∷ 105 ∷ 112 ∷ 101 ∷ 44 ∷ 115 ∷ 101 ∷ 103 ∷ 109 ∷ 101 ∷ 110 ∷ 116 ∷ 44 ∷ 107 ∷ 105 ∷ 110 ∷ 100 ∷ 44
    ∷ 116 ∷ 97 ∷ 114 ∷ 103 ∷ 101 ∷ 116 ∷ 44 ∷ 114 ∷ 97 ∷ 116 ∷ 101 ∷ 44 ∷ 104 ∷ 111 ∷ 108 ∷ 100 ∷ []

-- n of a line's cells, from number k on, spell those of the header
abbrev pub spell_header : List ℕ → (k n : ℕ) → Bool
spell_header line k zero = true
spell_header line k (suc n) = spells (text_of (cells line) k) (text_of (cells header) k) && spell_header line (k + 1) n

unfoldable pub is_header : List ℕ → Bool
is_header line = all_good (cells line) && eqb (length (cells line)) 6 && spell_header line 0 6

-- ---- a line's record
unfoldable pub record_in : List ℕ → Option Fields
record_in line =
    record_of (number_in Recipe (text_of (cells line) 0)) (number_in Segment (text_of (cells line) 1)) (kind_of (text_of (cells line) 2))
    (number_in Target (text_of (cells line) 3)) (number_in Rate (text_of (cells line) 4)) (number_in Hold (text_of (cells line) 5))

-- ---- what was read so far: whether every line was right, how many records were put, and the card
pub record Read : Type 0 where
  pub good : Bool
  pub records : ℕ
  pub card : List ℕ

abbrev pub read_as : Bool → ℕ → List ℕ → Read
read_as g n card = record { good = g; records = n; card = card }

abbrev pub wrong : Read → Read
wrong r = read_as false r.records r.card

-- a record whose pair is new, and that has room
unfoldable pub with_record : Read → Fields → Read
with_record r f =
    choose (found r.card (f.recipe, f.segment)) (wrong r)
    (choose (eqb (put_answer r.card (slot_of f)) done)
    (read_as r.good (r.records + 1) (put_card r.card (slot_of f)))
    (wrong r))

-- a record, if every field is right
abbrev pub with_fields : Read → Option Fields → Read
with_fields r None = wrong r
with_fields r (Some f) = with_record r f

-- a line: with a quote out of place, with nothing in it, with other than six fields, with a wrong field, or a record's
unfoldable pub with_line : Read → List ℕ → Read
with_line r line =
    choose (all_good (cells line))
    (choose (any_filled (cells line)) (choose (eqb (length (cells line)) 6) (with_fields r (record_in line)) (wrong r)) r)
    (wrong r)

abbrev pub with_lines : Read → List (List ℕ) → Read
with_lines r [] = r
with_lines r (l ∷ ls) = with_lines (with_line r (without_return l)) ls

-- ---- the table: of a header that is wrong nothing behind it is read
abbrev pub from_lines : List ℕ → List (List ℕ) → Read
from_lines card [] = read_as false 0 card
from_lines card (h ∷ ls) = choose (is_header (without_return h)) (with_lines (read_as true 0 card) ls) (read_as false 0 card)

unfoldable pub read_table : (table card : List ℕ) → Read
read_table table card = from_lines card (lines (behind_mark table))
