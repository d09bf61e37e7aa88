-- What putting does to a card: it stays good, what was put is found, and everything else is as before.
use mathlib.Core.Path.{◌≡◌, refl, sym, ap, ap₂, ◌∙◌, subst}
use mathlib.Core.Bool.{Bool, true, false, not, ◌&&◌, and-false, true≢false}
use mathlib.Core.List.{List, [], ◌∷◌}
use Prim.Native.Nat.{ℕ, ◌*◌, ◌/◌, ◌≤◌, ◌<◌}
use native.Mathlib.Omega.{arith}
use lib.Dec.{eqb, ltb}
use lib.ListN.{length, get_or, set, length-set}
use lib.Seq.{get_or-set_same, get_or-set_other}
use borrow.Author.Tests.{eq-eqb, eqb-true, leb-false, ltb-false, lt-ltb, not-true, not-false}
use Rattle.laws.specs.Choice.{choose}
use Rattle.laws.proofs.Test.{and_left, and_right}
use Rattle.refusals.specs.Refusals as refusal
use Rattle.refusals.proofs.Clear.{Clear, put_clear}
use Rattle.card_slots.specs.Slot.{pair_of, empty, legal, good_record}
use Rattle.card_slots.specs.Card.{slots, every, some, pairs, none_twice, good}
use Rattle.card_slots.specs.Find.{place, named, found, find_part, find_at}
use Rattle.card.specs.Put.{namesake, goes_to, nowhere, put_answer, written, put_card}
use Rattle.card_slots.proofs.Rules.{record_16}
use Rattle.card_slots.proofs.Slots.{slots_length}
use Rattle.card_slots.proofs.Twice.{some-place, some-named}
use Rattle.card_slots.proofs.Named.{named_pair, named_not_empty, named_other, named-empty, named_self}
use Rattle.card.proofs.Answers.{nowhere_at}
use Rattle.card_laws.proofs.Search.{every_set, place-true, place_set, place_other}
use Rattle.card_laws.proofs.Pairs.{twice_namesake, twice_empty}
use Rattle.card_laws.proofs.Written.{written-length, slots-written, written_twice}
use Rattle.card_laws.proofs.Find.{every-legal, found_inside}

-- ---- the slot that a filled record goes to
record Spot (ss : List (List ℕ)) (r : List ℕ) (i : ℕ) : Type 0 where
  -- no slot before it is the namesake
  before : i ≤ place (namesake r) ss
  once : none_twice (pairs (set ss i r)) ≡ none_twice (pairs ss)
  others : (q : ℕ × ℕ) → (pair_of r ≡ q → ⊥) → named q (get_or ss i []) ≡ false

spot : (ss : List (List ℕ)) (r : List ℕ) → empty r ≡ false → goes_to ss r < length ss → Spot ss r (goes_to ss r)
unfolding goes_to
spot ss r f h = by_test (some (namesake r) ss) refl h
  where
    by_test : (b : Bool) → some (namesake r) ss ≡ b → choose b (place (namesake r) ss) (place empty ss) < length ss
        → Spot ss r (choose b (place (namesake r) ss) (place empty ss))
    by_test true e h =
        let i = place (namesake r) ss in
        let m = place-true (namesake r) ss h in
        let same = named_pair (pair_of r) (get_or ss i []) m in
        record {
          before = omega arith;
          once = twice_namesake ss i r h f (named_not_empty (pair_of r) (get_or ss i []) m) same;
          others = λ q n. named_other q (get_or ss i []) (λ z. n (sym same ∙ z));
        }
    by_test false e h =
        let i = place empty ss in
        let m = place-true empty ss h in
        let l = ltb-false (place (namesake r) ss) (length ss) (sym (some-place (namesake r) ss) ∙ e) in
        record {
          before = omega arith;
          once = twice_empty ss i r h f m (sym (some-named (pair_of r) ss) ∙ e);
          others = λ q n. named-empty q (get_or ss i []) m;
        }

-- ---- a good record
module _ (r : List ℕ) (e : good_record r ≡ true) where
  record_filled : empty r ≡ false
  unfolding good_record
  record_filled = not-true (empty r) (and_right (eqb (length r) 16 && legal r) (not (empty r)) e)

  record_legal : legal r ≡ true
  unfolding good_record
  record_legal = and_right (eqb (length r) 16) (legal r) (and_left (eqb (length r) 16 && legal r) (not (empty r)) e)

good_alike : (a b : List ℕ) → length a ≡ length b → every legal (slots a) ≡ every legal (slots b)
    → none_twice (pairs (slots a)) ≡ none_twice (pairs (slots b)) → good a ≡ good b
unfolding good
good_alike a b l e f = rw (l, e, f)

choose_alike : (b : Bool) (x y d : List ℕ) → (b ≡ true → x ≡ y) → choose b x d ≡ choose b y d
choose_alike true x y d h = h refl
choose_alike false x y d h = refl

put_written : (card r : List ℕ) → put_answer card r ≡ refusal.done → put_card card r ≡ written card (goes_to (slots card) r) r
unfolding put_card
put_written card r z = rw (eq-eqb _ _ z)

-- ---- where the record was put
module _ (card r : List ℕ) (z : put_answer card r ≡ refusal.done) where
  clear : Clear (not (good card) ∷ not (good_record r) ∷ nowhere (slots card) r ∷ [])
  unfolding put_answer
  clear = put_clear (not (good card)) (not (good_record r)) (nowhere (slots card) r) z

  was_good : good card ≡ true
  was_good = not-false (good card) clear.0

  record_good : good_record r ≡ true
  record_good = not-false (good_record r) clear.1.0

  abbrev slot_of : ℕ
  slot_of = goes_to (slots card) r

  inside : slot_of < length (slots card)
  inside = leb-false (length (slots card)) slot_of (sym (nowhere_at (slots card) r) ∙ clear.1.1.0)

  in_card : slot_of < length card / 16
  in_card = subst (λ (n : ℕ). slot_of < n) (slots_length card) inside

  facts : Spot (slots card) r slot_of
  facts = spot (slots card) r (record_filled r record_good) inside

  is_written : put_card card r ≡ written card slot_of r
  is_written = put_written card r z

  -- a put, over its namesake or into an empty slot, changes one slot and no other
  pub put_one_slot : slots (put_card card r) ≡ set (slots card) (goes_to (slots card) r) r
  put_one_slot = ap slots is_written ∙ slots-written card slot_of r in_card (record_16 r record_good)

  pub put_other_slots : (j : ℕ) → (j ≡ goes_to (slots card) r → ⊥) → get_or (slots (put_card card r)) j [] ≡ get_or (slots card) j []
  put_other_slots j n = ap (λ (ss : List (List ℕ)). get_or ss j []) put_one_slot ∙ get_or-set_other (slots card) slot_of j r [] n

  length_after : length (put_card card r) ≡ length card
  length_after = ap length is_written ∙ written-length card slot_of r in_card (record_16 r record_good)

  as_many : length (slots (put_card card r)) ≡ length (slots card)
  as_many = ap length put_one_slot ∙ length-set (slots card) slot_of r

  good_after : good (put_card card r) ≡ good card
  good_after =
      good_alike (put_card card r) card length_after
      (ap (every legal) put_one_slot
      ∙ every_set legal (slots card) slot_of r (every-legal card was_good) (record_legal r record_good)
      ∙ sym (every-legal card was_good))
      (ap (λ (ss : List (List ℕ)). none_twice (pairs ss)) put_one_slot ∙ facts.once)

  place_after : place (namesake r) (slots (put_card card r)) ≡ slot_of
  place_after =
      ap (place (namesake r)) put_one_slot
      ∙ place_set (namesake r) (slots card) slot_of r inside facts.before (named_self r (record_filled r record_good))

  stands_after : some (namesake r) (slots (put_card card r)) ≡ true
  stands_after =
      some-place (namesake r) (slots (put_card card r)) ∙ ap₂ ltb place_after as_many ∙ lt-ltb slot_of (length (slots card)) inside

  found_after : found (put_card card r) (pair_of r) ≡ true
  unfolding found
  found_after = ap₂ ◌&&◌ (good_after ∙ was_good) stands_after

  part_after : find_part (put_card card r) (pair_of r) ≡ r
  unfolding find_part
  part_after =
      ap (λ (b : Bool). choose b (get_or (slots (put_card card r)) (place (namesake r) (slots (put_card card r))) []) []) found_after
      ∙ ap₂ (λ (ss : List (List ℕ)) (n : ℕ). get_or ss n []) put_one_slot place_after
      ∙ get_or-set_same (slots card) slot_of r [] inside

  at_after : find_at (put_card card r) (pair_of r) ≡ slot_of * 16
  unfolding find_at
  at_after =
      ap (λ (b : Bool). choose b (place (namesake r) (slots (put_card card r)) * 16) 0) found_after
      ∙ ap (λ (n : ℕ). n * 16) place_after

  -- what was put is found: its bytes, and in the slot that it went to
  pub put_found : (found (put_card card r) (pair_of r) ≡ true) × (find_part (put_card card r) (pair_of r) ≡ r)
      × (find_at (put_card card r) (pair_of r) ≡ goes_to (slots card) r * 16)
  put_found = (found_after, part_after, at_after)

  -- ---- every other pair
  module _ (q : ℕ × ℕ) (n : pair_of r ≡ q → ⊥) where
    place_still : place (named q) (slots (put_card card r)) ≡ place (named q) (slots card)
    place_still =
        ap (place (named q)) put_one_slot
        ∙ place_other (named q) (slots card) slot_of r (named_other q r n) (facts.others q n)

    found_still : found (put_card card r) q ≡ found card q
    unfolding found
    found_still =
        ap₂ ◌&&◌ good_after
        (some-place (named q) (slots (put_card card r)) ∙ ap₂ ltb place_still as_many ∙ sym (some-place (named q) (slots card)))

    slot_still : place (named q) (slots card) < length (slots card)
        → get_or (slots (put_card card r)) (place (named q) (slots (put_card card r))) [] ≡ get_or (slots card) (place (named q) (slots card)) []
    slot_still h =
        ap₂ (λ (ss : List (List ℕ)) (k : ℕ). get_or ss k []) put_one_slot place_still
        ∙ get_or-set_other (slots card) slot_of (place (named q) (slots card)) r []
        (λ e. true≢false
        (sym (place-true (named q) (slots card) h) ∙ ap (λ (k : ℕ). named q (get_or (slots card) k [])) e ∙ facts.others q n))

    part_still : find_part (put_card card r) q ≡ find_part card q
    unfolding find_part
    part_still =
        ap (λ (b : Bool). choose b (get_or (slots (put_card card r)) (place (named q) (slots (put_card card r))) []) []) found_still
        ∙ choose_alike (found card q) _ _ [] (λ e. slot_still (found_inside card q e))

    at_still : find_at (put_card card r) q ≡ find_at card q
    unfolding find_at
    at_still = ap₂ (λ (b : Bool) (k : ℕ). choose b (k * 16) 0) found_still place_still

  -- ---- the same record once more
  answer_again : put_answer (put_card card r) r ≡ refusal.done
  unfolding put_answer nowhere
  answer_again = rw (good_after ∙ was_good, record_good, stands_after) (ap (λ (b : Bool). refusal.put_order false false b) (and-false (not (some empty (slots (put_card card r))))))

  goes_again : goes_to (slots (put_card card r)) r ≡ slot_of
  unfolding goes_to
  goes_again =
      ap (λ (b : Bool). choose b (place (namesake r) (slots (put_card card r))) (place empty (slots (put_card card r)))) stands_after ∙ place_after

  card_again : put_card (put_card card r) r ≡ put_card card r
  card_again =
      put_written (put_card card r) r answer_again
      ∙ ap₂ (λ (c : List ℕ) (i : ℕ). written c i r) is_written goes_again
      ∙ written_twice card slot_of r in_card (record_16 r record_good)
      ∙ sym is_written

-- ---- on any answer
put_or_kept : (P : List ℕ → Type 0) (card r : List ℕ) → (put_answer card r ≡ refusal.done → P (put_card card r)) → P card → P (put_card card r)
unfolding put_card
put_or_kept P card r f k = by_answer (eqb (put_answer card r) refusal.done) refl f
  where
    new : List ℕ
    new = written card (goes_to (slots card) r) r

    by_answer : (b : Bool) → eqb (put_answer card r) refusal.done ≡ b → (put_answer card r ≡ refusal.done → P (choose b new card)) → P (choose b new card)
    by_answer true e g = g (eqb-true (put_answer card r) refusal.done e)
    by_answer false e g = k

-- refused, the card keeps its bytes
pub refused_kept : (card r : List ℕ) → (put_answer card r ≡ refusal.done → ⊥) → put_card card r ≡ card
refused_kept card r n = put_or_kept (λ (c : List ℕ). c ≡ card) card r (λ z. absurd (n z)) refl

-- a put never lengthens a card
pub put_length : (card r : List ℕ) → length (put_card card r) ≡ length card
put_length card r = put_or_kept (λ (c : List ℕ). length c ≡ length card) card r (length_after card r) refl

-- a card is as good after a put as before: a put on a good card leaves a good card
pub put_keeps_good : (card r : List ℕ) → good (put_card card r) ≡ good card
put_keeps_good card r = put_or_kept (λ (c : List ℕ). good c ≡ good card) card r (good_after card r) refl

-- every other pair is found as before, at the same place
pub put_others : (card r : List ℕ) (q : ℕ × ℕ) → (pair_of r ≡ q → ⊥)
    → (found (put_card card r) q ≡ found card q) × (find_part (put_card card r) q ≡ find_part card q) × (find_at (put_card card r) q ≡ find_at card q)
put_others card r q n =
    put_or_kept (λ (c : List ℕ). (found c q ≡ found card q) × (find_part c q ≡ find_part card q) × (find_at c q ≡ find_at card q)) card r
    (λ z. (found_still card r z q n, part_still card r z q n, at_still card r z q n)) (refl, refl, refl)

-- putting twice is putting once: the second put of a record answers what the first did and changes nothing
pub put_twice : (card r : List ℕ) → (put_answer (put_card card r) r ≡ put_answer card r) × (put_card (put_card card r) r ≡ put_card card r)
put_twice card r =
    put_or_kept (λ (c : List ℕ). (put_answer c r ≡ put_answer card r) × (put_card c r ≡ put_card card r)) card r
    (λ z. (answer_again card r z ∙ sym z, card_again card r z)) (refl, refl)

-- a full card refuses exactly the pairs that it does not have, with 14
pub full_refuses : (card r : List ℕ) → good card ≡ true → good_record r ≡ true → some empty (slots card) ≡ false
    → put_answer card r ≡ choose (found card (pair_of r)) refusal.done refusal.no_slot
unfolding put_answer nowhere found
full_refuses card r g b e = rw (g, b, e) (by_test (some (namesake r) (slots card)))
  where
    by_test : (t : Bool) → refusal.put_order false false (not t) ≡ choose t refusal.done refusal.no_slot
    by_test true = refl
    by_test false = refl
