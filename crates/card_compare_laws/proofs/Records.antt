-- The records that a good card holds are those that are found on it.
use mathlib.Core.Path.{◌≡◌, refl, sym, ap, ap₂, ◌∙◌, subst}
use mathlib.Core.Bool.{Bool, true, false, not, ◌&&◌}
use mathlib.Core.List.{List, []}
use Prim.Native.Nat.{ℕ, ◌<◌}
use native.Mathlib.Omega.{arith}
use lib.ListN.{length, get_or}
use borrow.Author.Tests.{ltb-true, lt-ltb, not-true}
use Rattle.laws.proofs.Test.{and_left, and_right}
use Rattle.runs.specs.Same.{same}
use Rattle.runs.proofs.Same.{same_self, same_is}
use Rattle.card_slots.specs.Slot.{pair_of}
use Rattle.card_slots.specs.Card.{slots, some, good}
use Rattle.card_slots.specs.Find.{place, named, found, find_part}
use Rattle.card.proofs.Answers.{none_part}
use Rattle.card_slots.proofs.Twice.{some-place}
use Rattle.card_laws.proofs.Search.{place-true, place_least}
use Rattle.card_slots.proofs.Named.{named_self}
use Rattle.card_laws.proofs.Find.{found_inside, part_is, found_pair, found_filled, only_found, only_one}
use Rattle.card_compare_laws.specs.Changes.{is_only_first, is_only_second}
use Rattle.card_compare_laws.specs.Records.{has, holds, SameRecords}
use Rattle.card_compare_laws.proofs.Exact.{changed_differ}

some_at : (t : List ℕ → Bool) (ss : List (List ℕ)) (i : ℕ) → i < length ss → t (get_or ss i []) ≡ true → some t ss ≡ true
some_at t ss i h e = let l = place_least t ss i e h in some-place t ss ∙ lt-ltb (place t ss) (length ss) (omega arith)

-- what is found stands on the card
pub found-holds : (card : List ℕ) (p : ℕ × ℕ) → found card p ≡ true → holds card (find_part card p) ≡ true
found-holds card p e =
    let s = find_part card p in
    some_at (has s) (slots card) (place (named p) (slots card)) (found_inside card p e)
    (ap (has s) (sym (part_is card p e)) ∙ ap₂ (λ (t u : Bool). t && not u) (same_self s) (found_filled card p e))

-- and what stands on a good card is found under its pair
module _ (card s : List ℕ) (g : good card ≡ true) (e : holds card s ≡ true) where
  abbrev at : ℕ
  at = place (has s) (slots card)

  inside : at < length (slots card)
  inside = ltb-true at (length (slots card)) (sym (some-place (has s) (slots card)) ∙ e)

  stands : has s (get_or (slots card) at []) ≡ true
  stands = place-true (has s) (slots card) inside

  very : s ≡ get_or (slots card) at []
  very = same_is s (get_or (slots card) at []) (and_left _ _ stands)

  has_pair : named (pair_of s) (get_or (slots card) at []) ≡ true
  has_pair =
      ap (λ (x : List ℕ). named (pair_of x) (get_or (slots card) at [])) very
      ∙ named_self (get_or (slots card) at []) (not-true _ (and_right (same s (get_or (slots card) at [])) _ stands))

  pub holds_found : (found card (pair_of s) ≡ true) × (find_part card (pair_of s) ≡ s)
  holds_found = (only_found card (pair_of s) at g inside has_pair, (only_one card (pair_of s) at g inside has_pair).0 ∙ sym very)

-- ---- two cards on which every pair finds the same
pub parts_found : (a b : List ℕ) (p : ℕ × ℕ) → find_part a p ≡ find_part b p → found a p ≡ found b p
parts_found a b p e = by_found (found a p) refl (found b p) refl
  where
    by_found : (t : Bool) → found a p ≡ t → (u : Bool) → found b p ≡ u → t ≡ u
    by_found true f true g = refl
    by_found false f false g = refl
    by_found true f false g = absurd (changed_differ (is_only_first f g) e)
    by_found false f true g = absurd (changed_differ (is_only_second f g) e)

-- on good cards that is to hold the same records
one_way : (a b : List ℕ) → good a ≡ true → ((p : ℕ × ℕ) → find_part a p ≡ find_part b p) → (s : List ℕ) → holds a s ≡ true → holds b s ≡ true
one_way a b g h s e =
    let f = holds_found a s g e in
    subst (λ (x : List ℕ). holds b x ≡ true) (sym (h (pair_of s)) ∙ f.1)
    (found-holds b (pair_of s) (sym (parts_found a b (pair_of s) (h (pair_of s))) ∙ f.0))

has_part : (a b : List ℕ) → good b ≡ true → ((s : List ℕ) → holds a s ≡ true → holds b s ≡ true) → (p : ℕ × ℕ) → found a p ≡ true → find_part b p ≡ find_part a p
has_part a b g h p e =
    ap (find_part b) (sym (found_pair a p e)) ∙ (holds_found b (find_part a p) g (h (find_part a p) (found-holds a p e))).1

module _ (a b : List ℕ) (ga : good a ≡ true) (gb : good b ≡ true) where
  pub same_records : ((p : ℕ × ℕ) → find_part a p ≡ find_part b p) → SameRecords a b
  same_records h = record { there = one_way a b ga h; back = one_way b a gb (λ p. sym (h p)) }

  pub same_parts : SameRecords a b → (p : ℕ × ℕ) → find_part a p ≡ find_part b p
  same_parts r p = by_found (found a p) refl (found b p) refl
    where
      by_found : (t : Bool) → found a p ≡ t → (u : Bool) → found b p ≡ u → find_part a p ≡ find_part b p
      by_found true e u f = sym (has_part a b gb r.there p e)
      by_found false e true f = has_part b a ga r.back p f
      by_found false e false f = sym (none_part a p e) ∙ none_part b p f
