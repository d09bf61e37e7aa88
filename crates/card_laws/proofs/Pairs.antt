-- The pairs on a card where one slot is set anew.
use mathlib.Core.Path.{◌≡◌, refl, sym, ap, ap₂, ◌∙◌}
use mathlib.Core.Bool.{Bool, true, false, not, ◌&&◌, ◌||◌, true≢false}
use mathlib.Core.List.{List, [], ◌∷◌, ◌++◌, map}
use Prim.Native.Nat.{ℕ, suc, ◌<◌}
use lib.ListN.{length, get_or, take, drop, set}
use lib.Seq.{split_at, set_split}
use Rattle.laws.specs.Choice.{choose}
use Rattle.card_slots.specs.Slot.{empty, pair_of}
use Rattle.card_slots.specs.Card.{some, same_pair, filled, pairs, none_twice}
use Rattle.card_slots.proofs.Named.{pair_sym}

-- ---- the pairs of slots in a row
pairs-append : (a b : List (List ℕ)) → pairs (a ++ b) ≡ pairs a ++ pairs b
pairs-append [] b = refl
pairs-append (s ∷ a) b = by_empty (empty s) (pairs-append a b)
  where
    by_empty : (t : Bool) → pairs (a ++ b) ≡ pairs a ++ pairs b
        → map pair_of (choose t (filled (a ++ b)) (s ∷ filled (a ++ b))) ≡ map pair_of (choose t (filled a) (s ∷ filled a)) ++ pairs b
    by_empty true u = u
    by_empty false u = ap (λ (l : List (ℕ × ℕ)). pair_of s ∷ l) u

pairs_filled : (s : List ℕ) (ss : List (List ℕ)) → empty s ≡ false → pairs (s ∷ ss) ≡ pair_of s ∷ pairs ss
pairs_filled s ss e = ap (λ (b : Bool). map pair_of (choose b (filled ss) (s ∷ filled ss))) e

pairs-empty : (s : List ℕ) (ss : List (List ℕ)) → empty s ≡ true → pairs (s ∷ ss) ≡ pairs ss
pairs-empty s ss e = ap (λ (b : Bool). map pair_of (choose b (filled ss) (s ∷ filled ss))) e

-- ---- a pair that stands nowhere, put among the others
some_insert : (p q : ℕ × ℕ) (a b : List (ℕ × ℕ)) → same_pair q p ≡ false → some (same_pair q) (a ++ p ∷ b) ≡ some (same_pair q) (a ++ b)
some_insert p q [] b e = ap (λ (t : Bool). t || some (same_pair q) b) e
some_insert p q (x ∷ a) b e = ap (λ (t : Bool). same_pair q x || t) (some_insert p q a b e)

or_left : (t u : Bool) → (t || u) ≡ false → t ≡ false
or_left true u e = e
or_left false u e = refl

or_right : (t u : Bool) → (t || u) ≡ false → u ≡ false
or_right true u e = absurd (true≢false e)
or_right false u e = e

twice_insert : (p : ℕ × ℕ) (a b : List (ℕ × ℕ)) → some (same_pair p) (a ++ b) ≡ false → none_twice (a ++ p ∷ b) ≡ none_twice (a ++ b)
twice_insert p [] b e = ap (λ (t : Bool). not t && none_twice b) e
twice_insert p (x ∷ a) b e =
    ap₂ (λ (t u : Bool). not t && u)
    (some_insert p x a b (pair_sym p x (or_left (same_pair p x) (some (same_pair p) (a ++ b)) e)))
    (twice_insert p a b (or_right (same_pair p x) (some (same_pair p) (a ++ b)) e))

-- ---- a filled slot set over its namesake, or over an empty one
module _ (ss : List (List ℕ)) (i : ℕ) (r : List ℕ) (h : i < length ss) (f : empty r ≡ false) where
  abbrev front : List (ℕ × ℕ)
  front = pairs (take i ss)

  abbrev behind : List (ℕ × ℕ)
  behind = pairs (drop (suc i) ss)

  pairs_set : pairs (set ss i r) ≡ front ++ pair_of r ∷ behind
  pairs_set =
      ap pairs (set_split ss i r h) ∙ pairs-append (take i ss) (r ∷ drop (suc i) ss)
      ∙ ap (λ (l : List (ℕ × ℕ)). front ++ l) (pairs_filled r (drop (suc i) ss) f)

  pairs_were : pairs ss ≡ front ++ pairs (get_or ss i [] ∷ drop (suc i) ss)
  pairs_were = ap pairs (split_at ss i [] h) ∙ pairs-append (take i ss) (get_or ss i [] ∷ drop (suc i) ss)

  pub twice_namesake : empty (get_or ss i []) ≡ false → pair_of (get_or ss i []) ≡ pair_of r → none_twice (pairs (set ss i r)) ≡ none_twice (pairs ss)
  twice_namesake g e =
      ap none_twice (pairs_set
      ∙ ap (λ (q : ℕ × ℕ). front ++ q ∷ behind) (sym e)
      ∙ sym (pairs_were ∙ ap (λ (l : List (ℕ × ℕ)). front ++ l) (pairs_filled (get_or ss i []) (drop (suc i) ss) g)))

  pub twice_empty : empty (get_or ss i []) ≡ true → some (same_pair (pair_of r)) (pairs ss) ≡ false → none_twice (pairs (set ss i r)) ≡ none_twice (pairs ss)
  twice_empty g e =
      let w = pairs_were ∙ ap (λ (l : List (ℕ × ℕ)). front ++ l) (pairs-empty (get_or ss i []) (drop (suc i) ss) g) in
      ap none_twice pairs_set
      ∙ twice_insert (pair_of r) front behind (ap (some (same_pair (pair_of r))) (sym w) ∙ e)
      ∙ sym (ap none_twice w)
