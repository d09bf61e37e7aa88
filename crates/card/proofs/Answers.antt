-- The answers of the three calls: one law for each outcome, in the order in which the code comes to it.
use mathlib.Core.Path.{◌≡◌, refl, sym, ap, ap₂, ◌∙◌}
use mathlib.Core.Bool.{Bool, true, false, not, ◌&&◌, and-true, and-false}
use mathlib.Core.List.{List, [], ◌∷◌}
use Prim.Native.Nat.{ℕ, ◌*◌, ◌/◌, ◌%◌, ◌≤◌, ◌<◌}
use native.Mathlib.Omega.{arith}
use lib.Dec.{leb, ltb}
use lib.ListN.{length, take}
use lib.Seq.{take_all, length-take-le}
use borrow.Author.Tests.{eq-eqb, ne_eqb, le-leb, lt-leb, lt-ltb, le-ltb, ltb-true, ltb-false, leb-false, not-false}
use Rattle.laws.specs.Choice.{choose}
use Rattle.refusals.specs.Refusals as refusal
use Rattle.refusals.proofs.Clear.{Clear, put_clear}
use Rattle.card_slots.specs.Slot.{empty, recipe, segment, legal, illegal, good_record}
use Rattle.card_slots.specs.Card.{slot, slots, every, some, pairs, none_twice, good}
use Rattle.card_slots.specs.Find.{place, named, found, find_part, find_at}
use Rattle.card.specs.Put.{namesake, goes_to, nowhere, put_answer, written, put_card}
use Rattle.std.specs.Prelude.{Some, None}
use Rattle.card_keys.specs.code.Keys.{InOrder, Apart}
use Rattle.card.specs.code.Order.{JudgesTo}
use Rattle.card_slots.proofs.Rules.{record_16}
use Rattle.card_slots.proofs.Slots.{slots_length, slots_at}
use Rattle.card_slots.proofs.Twice.{every_some, some-place}
use Rattle.card.proofs.Arranged.{apart_none, apart_ordered}

-- the first slot of which a test holds is one of the card's, or the test holds of none
module _ (t : List ℕ → Bool) (card : List ℕ) (x : ℕ) (e : x ≡ place t (slots card)) where
  some_at : some t (slots card) ≡ ltb x (length card / 16)
  some_at = some-place t (slots card) ∙ ap₂ ltb (sym e) (slots_length card)

  pub has : x < length card / 16 → some t (slots card) ≡ true
  has h = some_at ∙ lt-ltb _ _ h

  pub has_not : length card / 16 ≤ x → some t (slots card) ≡ false
  has_not h = some_at ∙ le-ltb _ _ h

-- ---- a card
module _ (card : List ℕ) where
  pub good_slots : (length card % 16 ≡ 0 → ⊥) → false ≡ good card
  unfolding good
  good_slots a = rw (ne_eqb _ _ a)

  module _ (a : length card % 16 ≡ 0) where
    pub good_long : 4096 < length card → false ≡ good card
    unfolding good
    good_long b = rw (eq-eqb _ _ a, lt-leb _ _ b)

    module _ (b : length card ≤ 4096) (x : ℕ) (e : x ≡ place illegal (slots card)) where
      pub good_illegal : x < length card / 16 → false ≡ good card
      unfolding good
      good_illegal h = rw (eq-eqb _ _ a, le-leb _ _ b, every_some legal (slots card), has illegal card x e h)

      pub good_legal : length card / 16 ≤ x → {t : Bool} → t ≡ none_twice (pairs (slots card)) → t ≡ good card
      unfolding good
      good_legal h f = rw (eq-eqb _ _ a, le-leb _ _ b, every_some legal (slots card), has_not illegal card x e h) f

-- judged with the keys of its slots in order
pub judged_bad : (card places : List ℕ) → false ≡ good card → JudgesTo card None places
judged_bad card places e = record { answered = e; few = tt; ordered = tt }

module _ (card : List ℕ) (a : length card % 16 ≡ 0) (b : length card ≤ 4096) (x : ℕ) (e : x ≡ place illegal (slots card)) (h : length card / 16 ≤ x)
    (places : List ℕ) (n : ℕ) (w : InOrder card places n) (r : Bool) (apart : Apart (take n places) r) where
  all_legal : every legal (slots card) ≡ true
  all_legal = every_some legal (slots card) ∙ ap not (has_not illegal card x e h)

  few_slots : length card / 16 ≤ 256
  few_slots = omega arith

  good_is : r ≡ good card
  good_is = good_legal card a b x e h (apart_none card (take n places) w.sorted all_legal few_slots apart)

  pub judged_twice : r ≡ false → JudgesTo card None places
  judged_twice z = judged_bad card places (sym z ∙ good_is)

  pub judged_ordered : length places ≡ 256 → r ≡ true → JudgesTo card (Some n) places
  judged_ordered long z =
      let most = w.few in
      let l = length-take-le n places (omega arith) in
      record {
        answered = sym z ∙ good_is;
        few = most;
        ordered = apart_ordered card (take n places) w.sorted all_legal few_slots apart (omega arith) z;
      }

-- ---- finding
module _ (card : List ℕ) (p : ℕ × ℕ) where
  pub found_bad : good card ≡ false → found card p ≡ false
  unfolding found
  found_bad a = rw a

  module _ (a : good card ≡ true) (x : ℕ) (e : x ≡ place (named p) (slots card)) where
    pub found_none : length card / 16 ≤ x → found card p ≡ false
    unfolding found
    found_none h = ap₂ ◌&&◌ a (has_not (named p) card x e h)

    found_one : x < length card / 16 → found card p ≡ true
    unfolding found
    found_one h = ap₂ ◌&&◌ a (has (named p) card x e h)

    pub one_part : x < length card / 16 → slot card x ≡ find_part card p
    unfolding find_part
    one_part h = rw (found_one h, ← e) (sym (slots_at card x h))

    pub one_at : x < length card / 16 → x * 16 ≡ find_at card p
    unfolding find_at
    one_at h = rw (found_one h, ← e)

  pub none_part : found card p ≡ false → [] ≡ find_part card p
  unfolding find_part
  none_part e = rw e

  pub none_at : found card p ≡ false → 0 ≡ find_at card p
  unfolding find_at
  none_at e = rw e

-- ---- where a record goes
module _ (card r : List ℕ) (n g x : ℕ) (en : n ≡ recipe r) (eg : g ≡ segment r) (ex : x ≡ place (named (n, g)) (slots card)) where
  namesake_at : x ≡ place (namesake r) (slots card)
  namesake_at = ex ∙ ap₂ (λ (a b : ℕ). place (named (a, b)) (slots card)) en eg

  pub goes_namesake : x < length card / 16 → x ≡ goes_to (slots card) r
  unfolding goes_to
  goes_namesake h = rw (has (namesake r) card x namesake_at h) namesake_at

  pub goes_empty : length card / 16 ≤ x → {y : ℕ} → y ≡ place empty (slots card) → y ≡ goes_to (slots card) r
  unfolding goes_to
  goes_empty h e = rw (has_not (namesake r) card x namesake_at h) e

-- a record has nowhere to go exactly if that is no slot
not_below : (a n : ℕ) → not (ltb a n) ≡ leb n a
not_below a n = by_test (ltb a n) refl
  where
    by_test : (b : Bool) → ltb a n ≡ b → not b ≡ leb n a
    by_test true e = sym (lt-leb n a (ltb-true a n e))
    by_test false e = sym (le-leb n a (ltb-false a n e))

pub nowhere_at : (ss : List (List ℕ)) (r : List ℕ) → nowhere ss r ≡ leb (length ss) (goes_to ss r)
unfolding nowhere goes_to
nowhere_at ss r = by_test (some (namesake r) ss) refl
  where
    none : (t : List ℕ → Bool) → not (some t ss) ≡ leb (length ss) (place t ss)
    none t = ap not (some-place t ss) ∙ not_below (place t ss) (length ss)

    by_test : (b : Bool) → some (namesake r) ss ≡ b
        → (not (some empty ss) && not b) ≡ leb (length ss) (choose b (place (namesake r) ss) (place empty ss))
    by_test true e = and-false (not (some empty ss)) ∙ ap not (sym e) ∙ none (namesake r)
    by_test false e = and-true (not (some empty ss)) ∙ none empty

-- ---- putting: what is decided before anything is written, where a record of 16 bytes goes to slot i and `no` is the first refusal that applies
pub record Decided (card r : List ℕ) (i no : ℕ) : Type 0 where
  pub answered : no ≡ put_answer card r
  pub kept : (no ≡ refusal.done → ⊥) → card ≡ put_card card r
  pub long : no ≡ refusal.done → length r ≡ 16
  pub inside : no ≡ refusal.done → i < length card / 16
  pub stored : no ≡ refusal.done → {b c : List ℕ} → b ≡ take 16 r → c ≡ written card i b → c ≡ put_card card r

module _ (card r : List ℕ) {g b : Bool} {i no : ℕ} (eg : g ≡ good card) (eb : b ≡ good_record r) (ei : length r ≡ 16 → i ≡ goes_to (slots card) r)
    (en : no ≡ refusal.put_order (not g) (not b) (leb (length card / 16) i)) where
  put_answered : no ≡ put_answer card r
  unfolding put_answer
  put_answered =
      en ∙ ap₂ (λ (x y : Bool). refusal.put_order (not x) (not y) (leb (length card / 16) i)) eg eb ∙ by_record (good_record r) refl
    where
      by_record : (t : Bool) → good_record r ≡ t
          → refusal.put_order (not (good card)) (not t) (leb (length card / 16) i) ≡ refusal.put_order (not (good card)) (not t) (nowhere (slots card) r)
      by_record true f =
          ap (refusal.put_order (not (good card)) false)
          (ap₂ leb (sym (slots_length card)) (ei (record_16 r f)) ∙ sym (nowhere_at (slots card) r))
      by_record false f = refl

  clear : no ≡ refusal.done → Clear (not g ∷ not b ∷ leb (length card / 16) i ∷ [])
  clear z = put_clear (not g) (not b) (leb (length card / 16) i) (sym en ∙ z)

  put_16 : no ≡ refusal.done → length r ≡ 16
  put_16 z = record_16 r (sym eb ∙ not-false b (clear z).1.0)

  put_written : no ≡ refusal.done → {b c : List ℕ} → b ≡ take 16 r → c ≡ written card i b → c ≡ put_card card r
  unfolding put_card
  put_written z e f =
      let l = put_16 z in
      f ∙ ap (written card i) (e ∙ take_all 16 r (omega arith)) ∙ rw (← put_answered, eq-eqb no refusal.done z, ei l)

  put_kept : (no ≡ refusal.done → ⊥) → card ≡ put_card card r
  unfolding put_card
  put_kept n = rw (← put_answered, ne_eqb no refusal.done n)

  pub decided : Decided card r i no
  decided =
      record {
        answered = put_answered;
        kept = put_kept;
        long = put_16;
        inside = λ z. leb-false (length card / 16) i (clear z).1.1.0;
        stored = put_written;
      }
