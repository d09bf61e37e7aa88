-- A line read and its record put: one law for each outcome, in the order in which the code comes to it.
use mathlib.Core.Path.{◌≡◌, refl, sym, ◌∙◌}
use mathlib.Core.Bool.{Bool, true, false, true≢false}
use mathlib.Core.List.{List, [], ◌∷◌}
use Prim.Native.Nat.{ℕ, ◌+◌, ◌≤◌, ◌<◌}
use native.Mathlib.Omega.{arith}
use lib.Dec.{eqb}
use lib.ListN.{length}
use borrow.Author.Tests.{eq-eqb, ne_eqb}
use Rattle.laws.specs.Choice.{choose}
use Rattle.refusals.specs.Refusals.{done}
use Rattle.card_slots.specs.Slot.{empty}
use Rattle.card_slots.specs.Find.{found, find_part}
use Rattle.card.specs.Put.{put_answer, put_card}
use Rattle.card_laws.proofs.Find.{found_filled}
use Rattle.card_laws.proofs.Put.{refused_kept}
use Rattle.card_fields.specs.Fields.{slot_of}
use Rattle.card_fields.specs.declared.Fields.{Fields}
use Rattle.cells.specs.Cells.{cells, all_good, any_filled, text_of}
use Rattle.record_words.specs.Record.{number_in, kind_of, record_of}
use Rattle.card_rules.specs.declared.Field.TheVariants.{Recipe, Segment, Target, Rate, Hold}
use Rattle.std.proofs.Common.{Option, Some, None}
use Rattle.card_table.specs.Table.{record_in, Read, read_as, wrong, with_record, with_fields, with_line}

nothing_empty : (l : List ℕ) → length l ≤ 0 → empty l ≡ true
unfolding empty
nothing_empty [] h = refl
nothing_empty (c ∷ l) h = absurd (omega arith)

-- ---- a pair is found exactly if a part is handed back
module _ (card : List ℕ) (p : ℕ × ℕ) where
  pub some_part : 0 < length (find_part card p) → found card p ≡ true
  unfolding find_part
  some_part h = go (found card p) refl
    where
      go : (b : Bool) → found card p ≡ b → found card p ≡ true
      go true e = e
      go false e = absurd (let n : 0 < length {A = ℕ} [] = rw e at h in omega arith)

  pub no_part : length (find_part card p) ≤ 0 → found card p ≡ false
  no_part h = go (found card p) refl
    where
      go : (b : Bool) → found card p ≡ b → found card p ≡ false
      go true e = absurd (true≢false (sym (nothing_empty (find_part card p) h) ∙ found_filled card p e))
      go false e = e

-- ---- a record
module _ (r : Read) (f : Fields) where
  pub there_already : found r.card (f.recipe, f.segment) ≡ true → wrong r ≡ with_record r f
  unfolding with_record
  there_already e = rw e

  module _ (e : found r.card (f.recipe, f.segment) ≡ false) where
    pub no_room_lem : (put_answer r.card (slot_of f) ≡ done → ⊥) → read_as false r.records (put_card r.card (slot_of f)) ≡ with_record r f
    unfolding with_record
    no_room_lem n = rw (e, ne_eqb (put_answer r.card (slot_of f)) done n, refused_kept r.card (slot_of f) n)

    pub record_put : put_answer r.card (slot_of f) ≡ done → read_as r.good (r.records + 1) (put_card r.card (slot_of f)) ≡ with_record r f
    unfolding with_record
    record_put n = rw (e, eq-eqb (put_answer r.card (slot_of f)) done n)

-- ---- a line
module _ (line : List ℕ) (a b k d e h : Option ℕ) where
  pub record_is : a ≡ number_in Recipe (text_of (cells line) 0) → b ≡ number_in Segment (text_of (cells line) 1) → k ≡ kind_of (text_of (cells line) 2)
      → d ≡ number_in Target (text_of (cells line) 3) → e ≡ number_in Rate (text_of (cells line) 4) → h ≡ number_in Hold (text_of (cells line) 5)
      → record_of a b k d e h ≡ record_in line
  unfolding record_in
  record_is ea eb ek ed ee eh = rw (ea, eb, ek, ed, ee, eh)

module _ (r : Read) (line : List ℕ) where
  pub quote_out_of_place : all_good (cells line) ≡ false → wrong r ≡ with_line r line
  unfolding with_line
  quote_out_of_place g = rw g

  module _ (g : all_good (cells line) ≡ true) where
    pub passed_over : any_filled (cells line) ≡ false → r ≡ with_line r line
    unfolding with_line
    passed_over s = rw (g, s)

    module _ (s : any_filled (cells line) ≡ true) where
      pub not_six_fields : (length (cells line) ≡ 6 → ⊥) → wrong r ≡ with_line r line
      unfolding with_line
      not_six_fields n = rw (g, s, ne_eqb (length (cells line)) 6 n)

      module _ (n : length (cells line) ≡ 6) where
        pub wrong_field : None ≡ record_in line → wrong r ≡ with_line r line
        unfolding with_line
        wrong_field w = rw (g, s, eq-eqb (length (cells line)) 6 n, ← w)

        pub right_fields : {f : Fields} → Some f ≡ record_in line → with_record r f ≡ with_line r line
        unfolding with_line
        right_fields w = rw (g, s, eq-eqb (length (cells line)) 6 n, ← w)

-- ---- a line has one record at most
with_record_few : (r : Read) (f : Fields) → (with_record r f).records ≤ r.records + 1
unfolding with_record
with_record_few r f = go (found r.card (f.recipe, f.segment)) (eqb (put_answer r.card (slot_of f)) done)
  where
    go : (a b : Bool) → (choose a (wrong r) (choose b (read_as r.good (r.records + 1) (put_card r.card (slot_of f))) (wrong r))).records ≤ r.records + 1
    go true b = omega arith
    go false true = omega arith
    go false false = omega arith

with_fields_few : (r : Read) (f : Option Fields) → (with_fields r f).records ≤ r.records + 1
with_fields_few r None = omega arith
with_fields_few r (Some f) = with_record_few r f

pub with_line_few : (r : Read) (line : List ℕ) → (with_line r line).records ≤ r.records + 1
unfolding with_line
with_line_few r line = go (all_good (cells line)) (any_filled (cells line)) (eqb (length (cells line)) 6)
  where
    go : (a b d : Bool) → (choose a (choose b (choose d (with_fields r (record_in line)) (wrong r)) r) (wrong r)).records ≤ r.records + 1
    go false b d = omega arith
    go true false d = omega arith
    go true true false = omega arith
    go true true true = with_fields_few r (record_in line)
