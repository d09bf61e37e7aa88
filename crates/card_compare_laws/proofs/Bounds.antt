-- Two cards have at most 512 changes, so the list has at most 2,048 bytes.
use mathlib.Core.Path.{◌≡◌, refl, sym, ap, ap₂, ◌∙◌}
use mathlib.Core.Bool.{Bool, true, false, not, ◌&&◌, ◌||◌, true≢false}
use mathlib.Core.List.Memᴰ
use mathlib.Core.List.{List, [], ◌∷◌}
use Prim.Native.Nat.{ℕ, suc, ◌*◌, ◌%◌, ◌≤◌}
use native.Mathlib.Omega.{arith}
use lib.Dec.{eqb}
use lib.ListN.{length, length-append, length-map}
use borrow.Author.Tests.{leb-true, ltb-false, not-true}
use Rattle.laws.specs.Choice.{choose}
use Rattle.laws.proofs.Test.{and_left, and_right}
use Rattle.card_slots.specs.Card.{slots, every, some, same_pair, none_twice, good}
use Rattle.card_slots.specs.Find.{named, found}
use Rattle.card_slots.proofs.Slots.{slots_length}
use Rattle.card_slots.proofs.Named.{same_pair_lem, pair_same, named_pair, named_other}
use Rattle.card_compare.specs.Compare.{changes, bytes_of, listed, differences}
use Rattle.card_compare_laws.specs.Changes.{Among, Changed, is_only_first, is_only_second, is_other_contents, pairs_of}
use Rattle.card_compare_laws.specs.Records.{how_many}
use Rattle.card_compare_laws.proofs.Exact.{listed_exactly}
use Rattle.card_compare_laws.proofs.Order.{no_pair_twice}
use Rattle.card_compare_laws.proofs.Counted.{some_many, many_or, many_all, many_none}

-- ---- of pairs of which none stands twice, a slot has one at most
named_as : (s : List ℕ) (p q : ℕ × ℕ) → named p s ≡ true → named q s ≡ same_pair p q
named_as s p q e = by_test (same_pair p q) refl
  where
    by_test : (t : Bool) → same_pair p q ≡ t → named q s ≡ t
    by_test true f = ap (λ (x : ℕ × ℕ). named x s) (sym (same_pair_lem p q f)) ∙ e
    by_test false f = named_other q s (λ z. true≢false (sym (pair_same p q (sym (named_pair p s e) ∙ z)) ∙ f))

one_of : (s : List ℕ) (ps : List (ℕ × ℕ)) → none_twice ps ≡ true → how_many (λ p. named p s) ps ≤ 1
one_of s [] e = omega arith
one_of s (p ∷ ps) e = by_test (named p s) refl (one_of s ps (and_right (not (some (same_pair p) ps)) _ e))
  where
    by_test : (t : Bool) → named p s ≡ t → how_many (λ p. named p s) ps ≤ 1 → choose t (suc (how_many (λ p. named p s) ps)) (how_many (λ p. named p s) ps) ≤ 1
    by_test true f h =
        let no_other : some (λ q. named q s) ps ≡ false =
        ap (λ (t : ℕ × ℕ → Bool). some t ps) (λ i q. named_as s p q f i) ∙ not-true (some (same_pair p) ps) (and_left _ (none_twice ps) e) in
        let z = ltb-false 0 (how_many (λ q. named q s) ps) (sym (some_many (λ q. named q s) ps) ∙ no_other) in
        omega arith
    by_test false f h = h

-- so slots have no more of them than there are slots
in_slots : (ss : List (List ℕ)) (ps : List (ℕ × ℕ)) → none_twice ps ≡ true → how_many (λ p. some (named p) ss) ps ≤ length ss
in_slots [] ps e = let z = many_none ps in omega arith
in_slots (s ∷ ss) ps e =
    let a = many_or (λ p. named p s) (λ p. some (named p) ss) ps in
    let b = one_of s ps e in
    let c = in_slots ss ps e in
    omega arith

on_card : (card : List ℕ) (ps : List (ℕ × ℕ)) → none_twice ps ≡ true → how_many (found card) ps ≤ 256
unfolding found good
on_card card ps e = by_good (good card) refl
  where
    by_good : (t : Bool) → good card ≡ t → how_many (λ p. t && some (named p) (slots card)) ps ≤ 256
    by_good true g =
        let short = leb-true (length card) 4096 (and_right (eqb (length card % 16) 0) _ (and_left _ _ (and_left _ _ g))) in
        let n = slots_length card in
        let m = in_slots (slots card) ps e in
        omega arith
    by_good false g = let z = many_none ps in omega arith

-- ---- the changes
found_one : {a b : List ℕ} {p : ℕ × ℕ} {m : ℕ} → Changed a b p m → (found a p || found b p) ≡ true
found_one {b = b} {p = p} (is_only_first u v) = ap (λ (t : Bool). t || found b p) u
found_one (is_only_second u v) = ap₂ ◌||◌ u v
found_one {b = b} {p = p} (is_other_contents u v n) = ap (λ (t : Bool). t || found b p) u

every_pair : (t : ℕ × ℕ → Bool) (cs : List ((ℕ × ℕ) × ℕ)) → ((p : ℕ × ℕ) (m : ℕ) → Among (p, m) cs → t p ≡ true) → every t (pairs_of cs) ≡ true
every_pair t [] h = refl
every_pair t (c ∷ cs) h = ap₂ ◌&&◌ (h c.0 c.1 (Memᴰ.head refl)) (every_pair t cs (λ p m w. h p m (Memᴰ.tail w)))

module _ (a b : List ℕ) where
  pub at_most_512 : length (changes a b) ≤ 512
  at_most_512 =
      let ps = pairs_of (changes a b) in
      let once = no_pair_twice a b in
      let n = many_all (λ p. found a p || found b p) ps (every_pair (λ p. found a p || found b p) (changes a b) (λ p m w. found_one ((listed_exactly a b p m).0 w))) in
      let l = length-map (changes a b) (λ c. c.0) in
      let s = many_or (found a) (found b) ps in
      let x = on_card a ps once in
      let y = on_card b ps once in
      omega arith

-- ---- four bytes each
listed-length : (cs : List ((ℕ × ℕ) × ℕ)) → length (listed cs) ≡ 4 * length cs
listed-length [] = refl
listed-length (c ∷ cs) = let h = listed-length cs in length-append (bytes_of c) (listed cs) ∙ omega arith

module _ (a b : List ℕ) where
  pub four_each : length (differences a b) ≡ 4 * length (changes a b)
  unfolding differences
  four_each = listed-length (changes a b)

  pub at_most_2048 : length (differences a b) ≤ 2048
  at_most_2048 = let n = four_each in let m = at_most_512 a b in omega arith
