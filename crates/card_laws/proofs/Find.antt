-- What finding tells about a card.
use mathlib.Core.Path.{◌≡◌, refl, sym, ap, ◌∙◌, subst}
use mathlib.Core.Bool.{Bool, true, false, not, ◌&&◌, true≢false}
use mathlib.Core.List.{List, [], ◌∷◌}
use Prim.Native.Nat.{ℕ, zero, suc, ◌*◌, ◌/◌, ◌%◌, ◌≤◌, ◌<◌}
use native.Mathlib.Omega.{arith}
use native.Mathlib.Nat.{le_of_suc-le-suc, not-suc-le-zero}
use lib.Dec.{eqb, leb}
use lib.ListN.{length, get_or}
use borrow.Author.Tests.{ltb-true, leb-true, not-true, lt-ltb}
use Rattle.laws.specs.Choice.{choose}
use Rattle.laws.proofs.Test.{and_left, and_right, fails}
use Rattle.laws.specs.Range.{within}
use Rattle.card_slots.specs.Slot.{recipe, segment, pair_of, empty, keeps_rules, legal}
use Rattle.card_slots.specs.Card.{slots, every, some, pairs, none_twice, good}
use Rattle.card_slots.specs.Find.{place, named, found, find_part, find_at}
use Rattle.card_slots.proofs.Named.{named_pair, named_not_empty}
use Rattle.card_slots.proofs.Twice.{some-place, every_at, again, twice_cons}
use Rattle.card_laws.proofs.Search.{place-true, place_least}

-- ---- a good card
module _ (card : List ℕ) (g : good card ≡ true) where
  before_pairs : (eqb (length card % 16) 0 && leb (length card) 4096 && every legal (slots card)) ≡ true
  unfolding good
  before_pairs = and_left (eqb (length card % 16) 0 && leb (length card) 4096 && every legal (slots card)) (none_twice (pairs (slots card))) g

  pub few_slots : length card / 16 ≤ 256
  few_slots =
      let long = and_left (eqb (length card % 16) 0 && leb (length card) 4096) (every legal (slots card)) before_pairs in
      let h = leb-true (length card) 4096 (and_right (eqb (length card % 16) 0) (leb (length card) 4096) long) in
      omega arith

  pub every-legal : every legal (slots card) ≡ true
  every-legal = and_right (eqb (length card % 16) 0 && leb (length card) 4096) (every legal (slots card)) before_pairs

  pub none_twice_lem : none_twice (pairs (slots card)) ≡ true
  unfolding good
  none_twice_lem = and_right (eqb (length card % 16) 0 && leb (length card) 4096 && every legal (slots card)) (none_twice (pairs (slots card))) g

-- ---- what is found
within_range : (low high n : ℕ) → within low high n ≡ true → (low ≤ n) × (n ≤ high)
within_range low high n e = (leb-true low n (and_left (leb low n) _ e), leb-true n high (and_right (leb low n) _ e))

module _ (card : List ℕ) (p : ℕ × ℕ) (e : found card p ≡ true) where
  found_good : good card ≡ true
  unfolding found
  found_good = and_left (good card) (some (named p) (slots card)) e

  pub found_inside : place (named p) (slots card) < length (slots card)
  unfolding found
  found_inside =
      ltb-true (place (named p) (slots card)) (length (slots card))
      (sym (some-place (named p) (slots card)) ∙ and_right (good card) (some (named p) (slots card)) e)

  pub part_is : find_part card p ≡ get_or (slots card) (place (named p) (slots card)) []
  unfolding find_part
  part_is = rw e

  found_named : named p (find_part card p) ≡ true
  found_named = ap (named p) part_is ∙ place-true (named p) (slots card) found_inside

  -- it has the pair
  pub found_pair : pair_of (find_part card p) ≡ p
  found_pair = named_pair p (find_part card p) found_named

  -- an empty slot is never found
  pub found_filled : empty (find_part card p) ≡ false
  found_filled = named_not_empty p (find_part card p) found_named

  -- it keeps the rules
  pub found_keeps_rules : keeps_rules (find_part card p) ≡ true
  found_keeps_rules =
      sym (ap (λ (b : Bool). choose b true (keeps_rules (find_part card p))) found_filled)
      ∙ ap legal part_is
      ∙ every_at legal (slots card) (place (named p) (slots card)) (every-legal card found_good) found_inside

  in_range : (within 1 65535 (recipe (find_part card p)) && within 1 32 (segment (find_part card p))) ≡ true
  unfolding keeps_rules
  in_range = and_left _ _ (and_left _ _ (and_left _ _ found_keeps_rules))

  -- its numbers are in their ranges
  pub found_recipe : (1 ≤ p.0) × (p.0 ≤ 65535)
  found_recipe =
      subst (λ (q : ℕ × ℕ). (1 ≤ q.0) × (q.0 ≤ 65535)) found_pair
      (within_range 1 65535 (recipe (find_part card p)) (and_left _ _ in_range))

  pub found_segment : (1 ≤ p.1) × (p.1 ≤ 32)
  found_segment =
      subst (λ (q : ℕ × ℕ). (1 ≤ q.1) × (q.1 ≤ 32)) found_pair
      (within_range 1 32 (segment (find_part card p)) (and_right (within 1 65535 (recipe (find_part card p))) _ in_range))

-- nothing is found under recipe 0
pub recipe_0 : (card : List ℕ) (g : ℕ) → found card (0, g) ≡ false
recipe_0 card g = fails (found card (0, g)) (λ e. not-suc-le-zero (found_recipe card (0, g) e).0)

pub recipe_0_part : (card : List ℕ) (g : ℕ) → find_part card (0, g) ≡ []
unfolding find_part
recipe_0_part card g = rw (recipe_0 card g)

-- ---- the only slot of a pair
once_at : (p : ℕ × ℕ) (ss : List (List ℕ)) (i : ℕ) → none_twice (pairs ss) ≡ true → i < length ss → named p (get_or ss i []) ≡ true → place (named p) ss ≡ i
once_at p [] i e h n = absurd (not-suc-le-zero h)
once_at p (s ∷ ss) zero e h n = ap (λ (b : Bool). choose b 0 (suc (place (named p) ss))) n
once_at p (s ∷ ss) (suc i) e h n = by_test (named p s) refl (once_at p ss i rest_once (le_of_suc-le-suc h) n)
  where
    both : (not (again (s ∷ ss)) && none_twice (pairs ss)) ≡ true
    both = sym (twice_cons s ss) ∙ e

    rest_once : none_twice (pairs ss) ≡ true
    rest_once = and_right (not (again (s ∷ ss))) (none_twice (pairs ss)) both

    not_again : again (s ∷ ss) ≡ false
    not_again = not-true (again (s ∷ ss)) (and_left (not (again (s ∷ ss))) (none_twice (pairs ss)) both)

    is_again : named p s ≡ true → again (s ∷ ss) ≡ true
    is_again m =
        let l = place_least (named p) ss i n (le_of_suc-le-suc h) in
        let k : i < length ss = le_of_suc-le-suc h in
        ap (λ (b : Bool). not b && some (named (pair_of s)) ss) (named_not_empty p s m)
        ∙ ap (λ (q : ℕ × ℕ). some (named q) ss) (named_pair p s m)
        ∙ some-place (named p) ss
        ∙ lt-ltb (place (named p) ss) (length ss) (omega arith)

    by_test : (b : Bool) → named p s ≡ b → place (named p) ss ≡ i → choose (named p s) 0 (suc (place (named p) ss)) ≡ suc i
    by_test true m u = absurd (true≢false (sym (is_again m) ∙ not_again))
    by_test false m u = ap (λ (b : Bool). choose b 0 (suc (place (named p) ss))) m ∙ ap suc u

module _ (card : List ℕ) (p : ℕ × ℕ) (i : ℕ) (g : good card ≡ true) (h : i < length (slots card)) (n : named p (get_or (slots card) i []) ≡ true) where
  pub only_place : place (named p) (slots card) ≡ i
  only_place = once_at p (slots card) i (none_twice_lem card g) h n

  pub only_found : found card p ≡ true
  unfolding found
  only_found = rw (g, some-place (named p) (slots card), only_place) (lt-ltb i (length (slots card)) h)

  -- a good card has at most one slot of a pair
  pub at_most_one : (j : ℕ) → j < length (slots card) → named p (get_or (slots card) j []) ≡ true → i ≡ j
  at_most_one j k m = sym only_place ∙ once_at p (slots card) j (none_twice_lem card g) k m

  -- and whichever slot has it is the one that is found: its bytes, and at its place
  pub only_one : (find_part card p ≡ get_or (slots card) i []) × (find_at card p ≡ i * 16)
  unfolding find_part find_at
  only_one = (rw (only_found, only_place), rw (only_found, only_place))
