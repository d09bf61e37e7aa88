-- The lines of a card's table are the header and the lines of its slots with a kind; so it is read as their records, put one after the other.
use mathlib.Core.Path.{◌≡◌, refl, sym, ap, ◌∙◌}
use mathlib.Core.Bool.{Bool, true, false}
use mathlib.Core.List.{List, [], ◌∷◌, ◌++◌, map}
use Prim.Native.Nat.{ℕ, zero, suc, ◌+◌, ◌-◌, ◌*◌, ◌/◌, ◌<◌}
use native.Mathlib.Omega.{arith}
use lib.Dec.{eqb}
use lib.ListN.{length, get_or, drop, replicate}
use borrow.Author.Tests.{eq-eqb, ne_eqb}
use Rattle.laws.specs.Choice.{choose}
use Rattle.laws.specs.Bytes.{Bytes}
use Rattle.laws.specs.Places.{tabFrom}
use Rattle.laws.proofs.Words.{Words, each_words, words_take, words_drop}
use Rattle.laws.proofs.Test.{and_left, and_right}
use Rattle.laws.proofs.Range.{not_below}
use Rattle.runs.proofs.All.{all_are}
use Rattle.spelling.specs.Word.{small}
use Rattle.card_slots.specs.Slot.{kind, empty, legal}
use Rattle.card_slots.specs.Card.{slot, slots, every, filled, good}
use Rattle.card_slots.proofs.Slots.{slot-length}
use Rattle.card_laws.proofs.Find.{every-legal}
use Rattle.cells.specs.Cells.{is_blank, before_blanks, ended, bare, quoted, cell, cells}
use Rattle.card_table.specs.Table.{behind_mark, in_front, lines, without_return, header, is_header, Read, read_as, with_record, with_line, with_lines, read_table}
use Rattle.card_table.specs.Written.{line_of, lines_of, table_of}
use Rattle.card_table.proofs.Headers.{no_return}
use Rattle.card_table_laws.specs.Texts.{Only, NoFeed, NoBreak}
use Rattle.card_table_laws.specs.Written.{fields_of, Kept, with_kind, fed, with_slots}
use Rattle.card_table_laws.proofs.Numbers.{only_wider}
use Rattle.card_table_laws.proofs.PlainCells.{only_at}
use Rattle.card_table_laws.proofs.LineRead.{line_no_break, kind_kept, line_put}

-- ---- lines, each followed by a line feed
pub lines_next : (l t : List ℕ) → Only NoFeed l → lines (l ++ 10 ∷ t) ≡ l ∷ lines t
lines_next [] t a = refl
lines_next (c ∷ l) t a = rw (ne_eqb c 10 a.0) (ap (in_front c) (lines_next l t a.1))

pub lines-fed : (ls : List (List ℕ)) → Only (Only NoFeed) ls → lines (fed ls) ≡ ls
lines-fed [] a = refl
lines-fed (l ∷ ls) a = lines_next l (fed ls) a.0 ∙ ap (λ (m : List (List ℕ)). l ∷ m) (lines-fed ls a.1)

-- ---- the lines of slots
line_no_feed : (s : List ℕ) → Only NoFeed (line_of s)
line_no_feed s = only_wider (λ c n. n.no_feed) (line_of s) (line_no_break s)

no_feeds : (ss : List (List ℕ)) → Only (Only NoFeed) (map line_of ss)
no_feeds [] = tt
no_feeds (s ∷ ss) = (line_no_feed s, no_feeds ss)

pub lines_of-fed : (ss : List (List ℕ)) → lines_of ss ≡ fed (map line_of (with_kind ss))
lines_of-fed [] = refl
lines_of-fed (s ∷ ss) = go (eqb (kind s) 0) (lines_of-fed ss)
  where
    go : (b : Bool) → lines_of ss ≡ fed (map line_of (with_kind ss))
        → choose b (lines_of ss) (line_of s ++ 10 ∷ lines_of ss) ≡ fed (map line_of (choose b (with_kind ss) (s ∷ with_kind ss)))
    go true e = e
    go false e = ap (λ (t : List ℕ). line_of s ++ 10 ∷ t) e

-- ---- the table
module _ (card : List ℕ) where
  pub table_lines : lines (table_of card) ≡ header ∷ map line_of (with_kind (slots card))
  unfolding table_of
  table_lines =
      let ss = with_kind (slots card) in
      ap (λ (ls : List (List ℕ)). header ∷ ls) (ap lines (lines_of-fed (slots card)) ∙ lines-fed (map line_of ss) (no_feeds ss))

  pub table_no_mark : behind_mark (table_of card) ≡ table_of card
  unfolding behind_mark table_of
  table_no_mark = refl

pub header_right : is_header (without_return header) ≡ true
unfolding is_header without_return cells cell quoted bare ended before_blanks is_blank small
header_right = refl

pub line_no_return : (s : List ℕ) → without_return (line_of s) ≡ line_of s
line_no_return s = sym (no_return (line_of s) (λ some. not_last (line_of s) (line_no_break s)))
  where
    not_last : (l : List ℕ) → Only NoBreak l → get_or l (length l - 1) 0 ≡ 13 → ⊥
    not_last [] a e = omega arith
    not_last (c ∷ l) a e = (only_at NoBreak (c ∷ l) (length (c ∷ l) - 1) (omega arith) a).no_return e

-- what is read of a card's table is what is read of its lines
pub table_read : (card into : List ℕ) → read_table (table_of card) into ≡ with_lines (read_as true 0 into) (map line_of (with_kind (slots card)))
unfolding read_table
table_read card into = rw (table_no_mark card, table_lines card, header_right)

-- ---- the records of slots that keep the rules are put
pub lines_put : (r : Read) (ss : List (List ℕ)) → Only Kept ss → with_lines r (map line_of ss) ≡ with_slots r ss
lines_put r [] a = refl
lines_put r (s ∷ ss) a =
    ap (λ (q : Read). with_lines q (map line_of ss)) (ap (with_line r) (line_no_return s) ∙ line_put s a.0.bytes a.0.rules r)
    ∙ lines_put (with_record r (fields_of s)) ss a.1

-- ---- of a good card: its slots with a kind are those that aren't empty, and these keep the rules
module _ (s : List ℕ) (bytes : Bytes 16 s) where
  pub empty_no_kind : empty s ≡ true → kind s ≡ 0
  unfolding empty
  empty_no_kind z = ap (λ (l : List ℕ). kind l) (all_are 0 s z ∙ ap (λ (n : ℕ). replicate n 0) bytes.long)

  module _ (allowed : legal s ≡ true) where
    filled_kept : empty s ≡ false → Kept s
    filled_kept e = record { bytes = bytes; rules = rw e at allowed }

    kind_or_empty : eqb (kind s) 0 ≡ empty s
    kind_or_empty = go (empty s) refl
      where
        go : (b : Bool) → empty s ≡ b → eqb (kind s) 0 ≡ b
        go true e = eq-eqb (kind s) 0 (empty_no_kind e)
        go false e = ne_eqb (kind s) 0 (λ z. let k = not_below 1 3 (kind s) (kind_kept s (filled_kept e).rules) in omega arith)

with_kind-filled : (ss : List (List ℕ)) → Only (Bytes 16) ss → every legal ss ≡ true → with_kind ss ≡ filled ss
with_kind-filled [] a e = refl
with_kind-filled (s ∷ ss) a e =
    rw (kind_or_empty s a.0 (and_left (legal s) (every legal ss) e))
    (ap (λ (m : List (List ℕ)). choose (empty s) m (s ∷ m)) (with_kind-filled ss a.1 (and_right (legal s) (every legal ss) e)))

all_filled_kept : (ss : List (List ℕ)) → Only (Bytes 16) ss → every legal ss ≡ true → Only Kept (filled ss)
all_filled_kept [] a e = tt
all_filled_kept (s ∷ ss) a e =
    go (empty s) refl (filled_kept s a.0 (and_left (legal s) (every legal ss) e)) (all_filled_kept ss a.1 (and_right (legal s) (every legal ss) e))
  where
    go : (b : Bool) → empty s ≡ b → (empty s ≡ false → Kept s) → Only Kept (filled ss) → Only Kept (choose b (filled ss) (s ∷ filled ss))
    go true f k more = more
    go false f k more = (k f, more)

only_tab : {A : Type 0} (P : A → Type 0) (f : ℕ → A) (i n : ℕ) → ((j : ℕ) → j < i + n → P (f j)) → Only P (tabFrom f i n)
only_tab P f i zero h = tt
only_tab P f i (suc n) h = (h i (omega arith), only_tab P f (suc i) n (λ j l. h j (omega arith)))

module _ (card : List ℕ) (bytes : Words 8 card) where
  slots_bytes : Only (Bytes 16) (slots card)
  unfolding slots
  slots_bytes =
      only_tab (Bytes 16) (slot card) 0 (length card / 16)
      (λ j h. each_words 8 16 (slot card j) (slot-length card j (omega arith)) (words_take 8 16 (drop (j * 16) card) (words_drop 8 (j * 16) card bytes)))

  module _ (g : good card ≡ true) where
    pub good_with_kind : with_kind (slots card) ≡ filled (slots card)
    good_with_kind = with_kind-filled (slots card) slots_bytes (every-legal card g)

    pub good_filled_kept : Only Kept (filled (slots card))
    good_filled_kept = all_filled_kept (slots card) slots_bytes (every-legal card g)

    pub good_table_put : (into : List ℕ) → read_table (table_of card) into ≡ with_slots (read_as true 0 into) (filled (slots card))
    good_table_put into =
        table_read card into ∙ ap (λ (ss : List (List ℕ)). with_lines (read_as true 0 into) (map line_of ss)) good_with_kind
        ∙ lines_put (read_as true 0 into) (filled (slots card)) good_filled_kept
