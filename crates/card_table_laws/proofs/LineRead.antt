-- The line of a slot that keeps the rules is read as the slot's record.
use mathlib.Core.Path.{◌≡◌, refl, sym, ap, ap₂, ◌∙◌}
use mathlib.Core.Bool.{true, ◌&&◌}
use mathlib.Core.List.{List, ◌∷◌, ◌++◌}
use Prim.Native.Nat.{ℕ, zero, suc, ◌+◌, ◌*◌, ◌/◌, ◌%◌, ◌≤◌, ◌<◌}
use native.Mathlib.Omega.{arith}
use lib.ListN.{length, get_or, take, drop, replicate, length-drop, take-append-drop}
use lib.Seq.{length-take-le, get_or-take}
use Rattle.laws.specs.Bytes.{Bytes}
use Rattle.laws.specs.Places.{tab}
use Rattle.laws.proofs.Places.{tab_is}
use Rattle.laws.proofs.Test.{and_left, and_right}
use Rattle.laws.proofs.Range.{not_below, not_above}
use Rattle.runs.specs.Zeros.{zeros}
use Rattle.runs.proofs.All.{all_are}
use Rattle.card_slots.specs.Slot.{recipe, segment, kind, target, rate, hold_minutes, rest, keeps_rules}
use Rattle.card_fields.specs.Fields.{slot_of}
use Rattle.card_rules.specs.Rules.{is_kind, may_be}
use Rattle.card_rules.proofs.FieldByField.{kept_field_by_field, any_rate_and_hold}
use Rattle.std.proofs.Common.{Some}
use Rattle.card_rules.specs.declared.Field.{Field}
use Rattle.card_rules.specs.declared.Field.TheVariants.{Recipe, Segment, Target, Rate, Hold}
use Rattle.spelling.specs.Word.{small}
use Rattle.cells.specs.Cells.{cells, text_of}
use Rattle.record_words.specs.Record.{spelled_in, number_in, kind_of, record_of}
use Rattle.card_table.specs.Table.{record_in, Read, with_record, with_line}
use Rattle.wording.specs.Numbers.{decimal, in_tenths}
use Rattle.card_fields.specs.Kinds.{kind_text}
use Rattle.card_table.specs.Written.{line_of}
use Rattle.card_table.proofs.Records.{right_fields}
use Rattle.card_table_laws.specs.Texts.{Only, NoBreak, SixCells}
use Rattle.card_table_laws.specs.Written.{fields_of}
use Rattle.card_table_laws.proofs.Numbers.{only_append, whole-decimal, tenths-in_tenths, decimal_plain, in_tenths_plain, kind_plain, decimal_no_break, in_tenths_no_break, kind_no_break}
use Rattle.card_table_laws.proofs.PlainCells.{six_cells}

-- ---- its cells, and no line break in it. Of any slot
module _ (s : List ℕ) where
  pub line_cells : SixCells (line_of s) (decimal (recipe s)) (decimal (segment s)) (kind_text (kind s))
      (in_tenths (target s)) (in_tenths (rate s)) (decimal (hold_minutes s))
  unfolding line_of
  line_cells =
      six_cells (decimal_plain (recipe s)) (decimal_plain (segment s)) (kind_plain (kind s)) (in_tenths_plain (target s)) (in_tenths_plain (rate s))
      (decimal_plain (hold_minutes s))

comma_no_break : NoBreak 44
comma_no_break = record { no_feed = λ e. omega arith; no_return = λ e. omega arith }

joined_no_break : (s t : List ℕ) → Only NoBreak s → Only NoBreak t → Only NoBreak (s ++ 44 ∷ t)
joined_no_break s t a b = only_append NoBreak s (44 ∷ t) a (comma_no_break, b)

pub line_no_break : (s : List ℕ) → Only NoBreak (line_of s)
unfolding line_of
line_no_break s =
    let a = decimal (recipe s) in
    let b = decimal (segment s) in
    let c = kind_text (kind s) in
    let d = in_tenths (target s) in
    let e = in_tenths (rate s) in
    joined_no_break (a ++ 44 ∷ b ++ 44 ∷ c ++ 44 ∷ d ++ 44 ∷ e) (decimal (hold_minutes s))
    (joined_no_break (a ++ 44 ∷ b ++ 44 ∷ c ++ 44 ∷ d) e
    (joined_no_break (a ++ 44 ∷ b ++ 44 ∷ c) d
    (joined_no_break (a ++ 44 ∷ b) c (joined_no_break a b (decimal_no_break (recipe s)) (decimal_no_break (segment s))) (kind_no_break (kind s)))
    (in_tenths_no_break (target s)))
    (in_tenths_no_break (rate s)))
    (decimal_no_break (hold_minutes s))

-- ---- a field
number_right : (field : Field) (n : ℕ) (text : List ℕ) → spelled_in field text ≡ Some n → may_be field n ≡ true → number_in field text ≡ Some n
unfolding number_in
number_right field n text e m = rw (e, m)

kind_right : (k : ℕ) → is_kind k ≡ true → kind_of (kind_text k) ≡ Some k
unfolding kind_of kind_text small
kind_right k e = go k (not_below 1 3 k e) (not_above 1 3 k e)
  where
    go : (k : ℕ) → 1 ≤ k → k ≤ 3 → kind_of (kind_text k) ≡ Some k
    go zero a b = absurd (omega arith)
    go (suc zero) a b = refl
    go (suc (suc zero)) a b = refl
    go (suc (suc (suc zero))) a b = refl
    go (suc (suc (suc (suc k)))) a b = absurd (omega arith)

-- ---- a slot of 16 bytes with nothing behind its fields is the slot of its fields
module _ (a b : ℕ) (h : b < 256) where
  high : (a * 256 + b) / 256 ≡ a
  high = omega arith

  low : (a * 256 + b) % 256 ≡ b
  low = omega arith

module _ (s : List ℕ) (bytes : Bytes 16 s) where
  fields_and_zeros : zeros (rest s) ≡ true → s ≡ tab 10 (λ j. get_or s j 0) ++ replicate 6 0
  fields_and_zeros z =
      let long = bytes.long in
      let l : length (drop 10 s) ≡ 6 = length-drop 10 s ∙ omega arith in
      sym (take-append-drop 10 s)
      ∙ ap₂ (λ (x y : List ℕ). x ++ y)
      (tab_is 10 (λ j. get_or s j 0) 0 (take 10 s) (length-take-le 10 s (omega arith)) (λ j h. get_or-take 10 s j 0 h))
      (all_are 0 (drop 10 s) z ∙ ap (λ (n : ℕ). replicate n 0) l)

  pub fields_slot : zeros (rest s) ≡ true → slot_of (fields_of s) ≡ s
  fields_slot z =
      let b : (j : ℕ) → j < 16 → get_or s j 0 < 256 = λ j h. bytes.each j h in
      rw (
        high (get_or s 0 0) (get_or s 1 0) (b 1 (omega arith)),
        low (get_or s 0 0) (get_or s 1 0) (b 1 (omega arith)),
        high (get_or s 4 0) (get_or s 5 0) (b 5 (omega arith)),
        low (get_or s 4 0) (get_or s 5 0) (b 5 (omega arith)),
        high (get_or s 6 0) (get_or s 7 0) (b 7 (omega arith)),
        low (get_or s 6 0) (get_or s 7 0) (b 7 (omega arith)),
        high (get_or s 8 0) (get_or s 9 0) (b 9 (omega arith)),
        low (get_or s 8 0) (get_or s 9 0) (b 9 (omega arith)),
      )
      (sym (fields_and_zeros z))

-- ---- the rules, one by one
module _ (s : List ℕ) (kept : keeps_rules s ≡ true) where
  all_five : (may_be Recipe (recipe s) && may_be Segment (segment s) && is_kind (kind s) && may_be Target (target s) && zeros (rest s)) ≡ true
  all_five = sym (kept_field_by_field s) ∙ kept

  first_four : (may_be Recipe (recipe s) && may_be Segment (segment s) && is_kind (kind s) && may_be Target (target s)) ≡ true
  first_four = and_left (may_be Recipe (recipe s) && may_be Segment (segment s) && is_kind (kind s) && may_be Target (target s)) (zeros (rest s)) all_five

  first_three : (may_be Recipe (recipe s) && may_be Segment (segment s) && is_kind (kind s)) ≡ true
  first_three = and_left (may_be Recipe (recipe s) && may_be Segment (segment s) && is_kind (kind s)) (may_be Target (target s)) first_four

  first_two : (may_be Recipe (recipe s) && may_be Segment (segment s)) ≡ true
  first_two = and_left (may_be Recipe (recipe s) && may_be Segment (segment s)) (is_kind (kind s)) first_three

  recipe_kept : may_be Recipe (recipe s) ≡ true
  recipe_kept = and_left (may_be Recipe (recipe s)) (may_be Segment (segment s)) first_two

  segment_kept : may_be Segment (segment s) ≡ true
  segment_kept = and_right (may_be Recipe (recipe s)) (may_be Segment (segment s)) first_two

  pub kind_kept : is_kind (kind s) ≡ true
  kind_kept = and_right (may_be Recipe (recipe s) && may_be Segment (segment s)) (is_kind (kind s)) first_three

  target_kept : may_be Target (target s) ≡ true
  target_kept = and_right (may_be Recipe (recipe s) && may_be Segment (segment s) && is_kind (kind s)) (may_be Target (target s)) first_four

  nothing_behind : zeros (rest s) ≡ true
  nothing_behind = and_right (may_be Recipe (recipe s) && may_be Segment (segment s) && is_kind (kind s) && may_be Target (target s)) (zeros (rest s)) all_five

-- ---- the line of a slot that keeps the rules
module _ (s : List ℕ) (bytes : Bytes 16 s) (kept : keeps_rules s ≡ true) where
  -- every field is small enough to be read again
  two_bytes_small : (at : ℕ) → at + 1 < 16 → get_or s at 0 * 256 + get_or s (at + 1) 0 < 65536
  two_bytes_small at h = let a = bytes.each at (omega arith) in let b = bytes.each (at + 1) h in omega arith

  recipe_read : number_in Recipe (text_of (cells (line_of s)) 0) ≡ Some (recipe s)
  unfolding spelled_in
  recipe_read =
      let h = two_bytes_small 0 (omega arith) in
      ap (number_in Recipe) (line_cells s).text_0
      ∙ number_right Recipe (recipe s) (decimal (recipe s)) (whole-decimal (recipe s) (omega arith)) (recipe_kept s kept)

  segment_read : number_in Segment (text_of (cells (line_of s)) 1) ≡ Some (segment s)
  unfolding spelled_in
  segment_read =
      let h = bytes.each 2 (omega arith) in
      ap (number_in Segment) (line_cells s).text_1
      ∙ number_right Segment (segment s) (decimal (segment s)) (whole-decimal (segment s) (omega arith)) (segment_kept s kept)

  kind_read : kind_of (text_of (cells (line_of s)) 2) ≡ Some (kind s)
  kind_read = ap kind_of (line_cells s).text_2 ∙ kind_right (kind s) (kind_kept s kept)

  target_read : number_in Target (text_of (cells (line_of s)) 3) ≡ Some (target s)
  unfolding spelled_in
  target_read =
      let h = two_bytes_small 4 (omega arith) in
      ap (number_in Target) (line_cells s).text_3
      ∙ number_right Target (target s) (in_tenths (target s)) (tenths-in_tenths (target s) (omega arith)) (target_kept s kept)

  rate_read : number_in Rate (text_of (cells (line_of s)) 4) ≡ Some (rate s)
  unfolding spelled_in
  rate_read =
      let h = two_bytes_small 6 (omega arith) in
      ap (number_in Rate) (line_cells s).text_4
      ∙ number_right Rate (rate s) (in_tenths (rate s)) (tenths-in_tenths (rate s) (omega arith)) (any_rate_and_hold s bytes).0

  hold_read : number_in Hold (text_of (cells (line_of s)) 5) ≡ Some (hold_minutes s)
  unfolding spelled_in
  hold_read =
      let h = two_bytes_small 8 (omega arith) in
      ap (number_in Hold) (line_cells s).text_5
      ∙ number_right Hold (hold_minutes s) (decimal (hold_minutes s)) (whole-decimal (hold_minutes s) (omega arith)) (any_rate_and_hold s bytes).1

  -- the record is the slot's
  pub line_record : record_in (line_of s) ≡ Some (fields_of s)
  unfolding record_in record_of
  line_record =
      let seg : segment s % 256 ≡ segment s = let h = bytes.each 2 (omega arith) in omega arith in
      let kin : kind s % 256 ≡ kind s = let h = bytes.each 3 (omega arith) in omega arith in
      rw (recipe_read, segment_read, kind_read, target_read, rate_read, hold_read, seg, kin)

  pub slot_again : slot_of (fields_of s) ≡ s
  slot_again = fields_slot s bytes (nothing_behind s kept)

  pub line_read : (record_in (line_of s) ≡ Some (fields_of s)) × (slot_of (fields_of s) ≡ s)
  line_read = (line_record, slot_again)

  -- so a line read is its record put
  pub line_put : (r : Read) → with_line r (line_of s) ≡ with_record r (fields_of s)
  line_put r =
      let c = line_cells s in
      sym (right_fields r (line_of s) c.good c.filled c.six (sym line_record))
