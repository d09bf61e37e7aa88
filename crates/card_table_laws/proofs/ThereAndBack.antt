-- From a good card to a table and back: every line is right, and the records stand in front on the card, in the order in which they stood.
use mathlib.Core.Path.{◌≡◌, refl, sym, ap, ap₂, ◌∙◌, subst}
use mathlib.Core.Bool.{Bool, true, false}
use mathlib.Core.List.{List, [], ◌∷◌, ◌++◌, append_assoc, append-nil, map}
use Prim.Native.Nat.{ℕ, zero, suc, ◌+◌, ◌-◌, ◌≤◌}
use native.Mathlib.Omega.{arith}
use native.Mathlib.Nat.{zero-add}
use lib.ListN.{length, replicate, length-append}
use borrow.Author.Tests.{ne_eqb}
use Rattle.laws.specs.Choice.{choose}
use Rattle.laws.proofs.Test.{fails}
use Rattle.laws.proofs.Range.{not_below}
use Rattle.laws.proofs.Words.{Words}
use Rattle.card_slots.specs.Slot.{kind, empty, legal, pair_of, good_record}
use Rattle.card_slots.specs.Card.{slots, every, filled, pairs, none_twice, good}
use Rattle.card_slots.proofs.Rules.{record_legal}
use Rattle.card_slots.proofs.Slots.{slots_length}
use Rattle.card.specs.Put.{put_answer, put_card}
use Rattle.card_laws.proofs.Find.{few_slots, none_twice_lem}
use Rattle.card_table.specs.Table.{header, Read, read_as, with_record, read_table}
use Rattle.card_table.specs.Written.{line_of, table_of}
use Rattle.card_table.proofs.Records.{record_put}
use Rattle.card_table_laws.specs.Texts.{Only}
use Rattle.card_table_laws.specs.Written.{fields_of, Kept, with_kind, fed, with_slots}
use Rattle.card_table_laws.proofs.LineRead.{slot_again, kind_kept}
use Rattle.card_table_laws.proofs.TableLines.{lines_of-fed, empty_no_kind, good_with_kind, good_filled_kept, good_table_put}
use Rattle.card_table_laws.proofs.Putting.{empty_slots, empty_slot_lem, Begun, not_found, is_put, put_behind, pair_new}

-- ---- what is read: every line was right, and the records rs stand in front of m empty slots
pub record Stands (r : Read) (rs : List (List ℕ)) (m : ℕ) : Type 0 where
  pub right : r.good ≡ true
  pub counted : r.records ≡ length rs
  pub card : Begun r.card rs m

kept_filled : (s : List ℕ) → Kept s → empty s ≡ false
kept_filled s k =
    fails (empty s)
    (λ e.
    let h = not_below 1 3 (kind s) (kind_kept s k.rules) in
    let z = empty_no_kind s k.bytes e in
    omega arith)

kept_good : (s : List ℕ) → Kept s → good_record s ≡ true
kept_good s k =
    let e = kept_filled s k in
    let l : legal s ≡ true = rw e k.rules in
    sym (record_legal s k.bytes.long l) ∙ rw e

-- ---- records put one after the other
pub slots_put : (ss : List (List ℕ)) → Only Kept ss → (rs : List (List ℕ)) (card : List ℕ) (n m : ℕ) → n ≡ length ss + m → Begun card rs n
    → none_twice (pairs (rs ++ ss)) ≡ true → Stands (with_slots (read_as true (length rs) card) ss) (rs ++ ss) m
slots_put [] w rs card n m q b e = record {
  right = refl;
  counted = ap length (sym (append-nil rs));
  card = subst (λ (x : List (List ℕ)). Begun card x m) (sym (append-nil rs)) (subst (Begun card rs) (q ∙ zero-add m) b);
}
slots_put (s ∷ ss) w rs card n m q b e =
    let k = w.0 in
    let g = kept_good s k in
    let new = pair_new rs s ss (kept_filled s k) e in
    let more : n ≡ suc (length ss + m) = omega arith in
    let c = subst (Begun card rs) more b in
    let r = read_as true (length rs) card in
    let same = slot_again s k.bytes k.rules in
    let put : with_record r (fields_of s) ≡ read_as true (length (rs ++ s ∷ [])) (put_card card s)
    = sym (record_put r (fields_of s) (not_found c s g new) (ap (put_answer card) same ∙ is_put c s g new))
    ∙ ap₂ (λ (x : ℕ) (y : List ℕ). read_as true x (put_card card y)) (sym (length-append rs (s ∷ []))) same in
    subst (λ (x : Read). Stands (with_slots x ss) (rs ++ s ∷ ss) m) (sym put)
    (subst (λ (x : List (List ℕ)). Stands (with_slots (read_as true (length (rs ++ s ∷ [])) (put_card card s)) ss) x m) (append_assoc rs (s ∷ []) ss)
    (slots_put ss w.1 (rs ++ s ∷ []) (put_card card s) (length ss + m) m refl (put_behind c s g new)
    (ap (λ (x : List (List ℕ)). none_twice (pairs x)) (append_assoc rs (s ∷ []) ss) ∙ e)))

-- ---- a card of zeros: 256 empty slots
abbrev pub blank : List ℕ
blank = replicate 4096 0

blank-slots : slots blank ≡ empty_slots 256
unfolding slots
blank-slots = refl

empty_legal : (m : ℕ) → every legal (empty_slots m) ≡ true
empty_legal zero = refl
empty_legal (suc m) = rw empty_slot_lem (empty_legal m)

none_filled : (m : ℕ) → filled (empty_slots m) ≡ []
none_filled zero = refl
none_filled (suc m) = rw empty_slot_lem (none_filled m)

blank_begun : Begun blank [] 256
unfolding good
blank_begun = record { is_good = rw (blank-slots, empty_legal 256, none_filled 256); all_filled = refl; holds = blank-slots }

-- ---- the filled slots of a card
filled_few : (ss : List (List ℕ)) → length (filled ss) ≤ length ss
filled_few [] = omega arith
filled_few (s ∷ ss) = go (empty s) (filled_few ss)
  where
    go : (b : Bool) → length (filled ss) ≤ length ss → length (choose b (filled ss) (s ∷ filled ss)) ≤ suc (length ss)
    go true h = omega arith
    go false h = omega arith

filled_again : (ss : List (List ℕ)) → filled (filled ss) ≡ filled ss
filled_again [] = refl
filled_again (s ∷ ss) = go (empty s) refl (filled_again ss)
  where
    go : (b : Bool) → empty s ≡ b → filled (filled ss) ≡ filled ss → filled (choose b (filled ss) (s ∷ filled ss)) ≡ choose b (filled ss) (s ∷ filled ss)
    go true e h = h
    go false e h = rw e (ap (λ (l : List (List ℕ)). s ∷ l) h)

-- ---- the card written as a table, and the table read on a card of zeros
pub there_and_back : (card : List ℕ) → Words 8 card → good card ≡ true
    → Stands (read_table (table_of card) blank) (filled (slots card)) (256 - length (filled (slots card)))
there_and_back card w g =
    let few = filled_few (slots card) in
    let all = slots_length card in
    let most = few_slots card g in
    let n : 256 ≡ length (filled (slots card)) + (256 - length (filled (slots card))) = omega arith in
    subst (λ (r : Read). Stands r (filled (slots card)) (256 - length (filled (slots card)))) (sym (good_table_put card w g blank))
    (slots_put (filled (slots card)) (good_filled_kept card w g) [] blank 256 (256 - length (filled (slots card))) n blank_begun
    (ap (λ (l : List (List ℕ)). none_twice (map pair_of l)) (filled_again (slots card)) ∙ none_twice_lem card g))

-- ---- and that card's table is the same, byte for byte
no_kinds : (m : ℕ) → with_kind (empty_slots m) ≡ []
no_kinds zero = refl
no_kinds (suc m) = no_kinds m

kinds_in_front : (ss : List (List ℕ)) → Only Kept ss → (m : ℕ) → with_kind (ss ++ empty_slots m) ≡ ss
kinds_in_front [] w m = no_kinds m
kinds_in_front (s ∷ ss) w m =
    let h = not_below 1 3 (kind s) (kind_kept s w.0.rules) in
    rw (ne_eqb (kind s) 0 (λ z. omega arith)) (ap (λ (l : List (List ℕ)). s ∷ l) (kinds_in_front ss w.1 m))

pub same_table : (card : List ℕ) → Words 8 card → good card ≡ true → table_of (read_table (table_of card) blank).card ≡ table_of card
unfolding table_of
same_table card w g =
    let read = there_and_back card w g in
    let again : with_kind (slots (read_table (table_of card) blank).card) ≡ with_kind (slots card)
    = ap with_kind read.card.holds ∙ kinds_in_front (filled (slots card)) (good_filled_kept card w g) (256 - length (filled (slots card)))
    ∙ sym (good_with_kind card w g) in
    ap (λ (l : List ℕ). header ++ 10 ∷ l)
    (lines_of-fed (slots (read_table (table_of card) blank).card) ∙ ap (λ (ss : List (List ℕ)). fed (map line_of ss)) again ∙ sym (lines_of-fed (slots card)))
