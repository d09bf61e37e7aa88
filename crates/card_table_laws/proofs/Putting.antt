-- Records put one after the other on a card whose other slots are empty stand there in their order.
use mathlib.Core.Path.{◌≡◌, refl, sym, ap, ◌∙◌}
use mathlib.Core.Bool.{Bool, true, false, not, ◌&&◌, ◌||◌, and-false, true≢false}
use mathlib.Core.List.{List, [], ◌∷◌, ◌++◌, append_assoc}
use Prim.Native.Nat.{ℕ, zero, suc}
use lib.Dec.{eqb}
use lib.ListN.{length, set, replicate}
use lib.Seq.{set-append_seam}
use borrow.Author.Tests.{not-true}
use Rattle.laws.proofs.Test.{and_left, and_right, fails}
use Rattle.refusals.specs.Refusals.{done}
use Rattle.card_slots.specs.Slot.{empty, legal, pair_of, good_record}
use Rattle.card_slots.specs.Card.{slots, every, some, pairs, none_twice, good}
use Rattle.card_slots.specs.Find.{place, named, found}
use Rattle.card_slots.proofs.Named.{named_pair, named_not_empty, named-empty, named_self}
use Rattle.card_slots.proofs.Twice.{again, twice_cons}
use Rattle.card.specs.Put.{namesake, goes_to, nowhere, put_answer, put_card}
use Rattle.card_laws.proofs.Put.{put_one_slot, put_keeps_good}

-- ---- empty slots
abbrev pub empty_slot : List ℕ
empty_slot = replicate 16 0

abbrev pub empty_slots : ℕ → List (List ℕ)
empty_slots m = replicate m empty_slot

pub empty_slot_lem : empty empty_slot ≡ true
unfolding empty
empty_slot_lem = refl

none_named : (p : ℕ × ℕ) (m : ℕ) → some (named p) (empty_slots m) ≡ false
none_named p zero = refl
none_named p (suc m) = rw (named-empty p empty_slot empty_slot_lem) (none_named p m)

-- ---- behind records that are there
abbrev is_filled : List ℕ → Bool
is_filled s = not (empty s)

some-append : {A : Type 0} (t : A → Bool) (xs ys : List A) → some t xs ≡ false → some t ys ≡ false → some t (xs ++ ys) ≡ false
some-append t [] ys a b = b
some-append t (x ∷ xs) ys a b = go (t x) a (some-append t xs ys)
  where
    go : (c : Bool) → (c || some t xs) ≡ false → (some t xs ≡ false → some t ys ≡ false → some t (xs ++ ys) ≡ false) → (c || some t (xs ++ ys)) ≡ false
    go true e r = absurd (true≢false e)
    go false e r = r e b

every_behind : {A : Type 0} (t : A → Bool) (xs : List A) (y : A) → every t xs ≡ true → t y ≡ true → every t (xs ++ y ∷ []) ≡ true
every_behind t [] y a b = rw b
every_behind t (x ∷ xs) y a b = rw (and_left (t x) (every t xs) a) (every_behind t xs y (and_right (t x) (every t xs) a) b)

place-empty : (rs es : List (List ℕ)) → every is_filled rs ≡ true → place empty (rs ++ empty_slot ∷ es) ≡ length rs
place-empty [] es f = rw empty_slot_lem
place-empty (r ∷ rs) es f =
    rw (not-true (empty r) (and_left (is_filled r) (every is_filled rs) f)) (ap suc (place-empty rs es (and_right (is_filled r) (every is_filled rs) f)))

some-empty : (rs es : List (List ℕ)) → some empty (rs ++ empty_slot ∷ es) ≡ true
some-empty [] es = rw empty_slot_lem
some-empty (r ∷ rs) es = go (empty r) (some-empty rs es)
  where
    go : (b : Bool) → some empty (rs ++ empty_slot ∷ es) ≡ true → (b || some empty (rs ++ empty_slot ∷ es)) ≡ true
    go true e = refl
    go false e = e

-- ---- a card with the records rs in front, and m empty slots
pub record Begun (card : List ℕ) (rs : List (List ℕ)) (m : ℕ) : Type 0 where
  pub is_good : good card ≡ true
  pub all_filled : every is_filled rs ≡ true
  pub holds : slots card ≡ rs ++ empty_slots m

record_filled : (s : List ℕ) → good_record s ≡ true → empty s ≡ false
unfolding good_record
record_filled s e = not-true (empty s) (and_right (eqb (length s) 16 && legal s) (not (empty s)) e)

module _ {card : List ℕ} {rs : List (List ℕ)} {m : ℕ} (b : Begun card rs (suc m)) (s : List ℕ) (g : good_record s ≡ true)
    (new : some (named (pair_of s)) rs ≡ false) where
  none : some (namesake s) (slots card) ≡ false
  none = ap (some (namesake s)) b.holds ∙ some-append (namesake s) rs (empty_slots (suc m)) new (none_named (pair_of s) (suc m))

  pub not_found : found card (pair_of s) ≡ false
  unfolding found
  not_found = rw none (and-false (good card))

  pub is_put : put_answer card s ≡ done
  unfolding put_answer nowhere
  is_put = rw (b.is_good, g, b.holds, some-empty rs (empty_slots m))

  goes_behind : goes_to (slots card) s ≡ length rs
  unfolding goes_to
  goes_behind = rw none (ap (place empty) b.holds ∙ place-empty rs (empty_slots m) b.all_filled)

  pub put_behind : Begun (put_card card s) (rs ++ s ∷ []) m
  put_behind = record {
    is_good = put_keeps_good card s ∙ b.is_good;
    all_filled = every_behind is_filled rs s b.all_filled (rw (record_filled s g));
    holds =
        put_one_slot card s is_put ∙ ap (λ (i : ℕ). set (slots card) i s) goes_behind
        ∙ ap (λ (ss : List (List ℕ)). set ss (length rs) s) b.holds ∙ set-append_seam rs empty_slot (empty_slots m) s
        ∙ sym (append_assoc rs (s ∷ []) (empty_slots m));
  }

-- ---- no pair stands twice: a later slot's pair isn't among the earlier ones
some_in : {A : Type 0} (t : A → Bool) (xs : List A) (y : A) (ys : List A) → t y ≡ true → some t (xs ++ y ∷ ys) ≡ true
some_in t [] y ys e = rw e
some_in t (x ∷ xs) y ys e = go (t x) (some_in t xs y ys e)
  where
    go : (b : Bool) → some t (xs ++ y ∷ ys) ≡ true → (b || some t (xs ++ y ∷ ys)) ≡ true
    go true u = refl
    go false u = u

pub pair_new : (rs : List (List ℕ)) (s : List ℕ) (ss : List (List ℕ)) → empty s ≡ false → none_twice (pairs (rs ++ s ∷ ss)) ≡ true
    → some (named (pair_of s)) rs ≡ false
pair_new [] s ss f e = refl
pair_new (r ∷ rs) s ss f e =
    let rest = rs ++ s ∷ ss in
    let both : (not (again (r ∷ rest)) && none_twice (pairs rest)) ≡ true = sym (twice_cons r rest) ∙ e in
    let once : again (r ∷ rest) ≡ false = not-true (again (r ∷ rest)) (and_left (not (again (r ∷ rest))) (none_twice (pairs rest)) both) in
    let other : named (pair_of s) r ≡ false =
    fails (named (pair_of s) r)
    (λ n.
    let p = named_pair (pair_of s) r n in
    let q : named (pair_of r) s ≡ true = rw p (named_self s f) in
    true≢false (sym (some_in (named (pair_of r)) rs s ss q) ∙ rw (named_not_empty (pair_of s) r n) at once)) in
    rw other (pair_new rs s ss f (and_right (not (again (r ∷ rest))) (none_twice (pairs rest)) both))
