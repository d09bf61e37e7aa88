-- A line put together from its parts, and the lines of a card one after the other.
use mathlib.Core.Path.{◌≡◌, refl, sym, ap, ◌∙◌}
use mathlib.Core.Bool.{Bool, true, false}
use mathlib.Core.List.{List, [], ◌∷◌, ◌++◌, append_assoc}
use Prim.Native.Nat.{ℕ, suc, ◌+◌, ◌/◌, ◌≤◌, ◌<◌}
use native.Mathlib.Omega.{arith}
use native.Mathlib.Numerals.{add-one}
use lib.Dec.{eqb}
use lib.ListN.{length, drop, drop_of_length-le}
use lib.Seq.{drop-cons, append_snoc}
use borrow.Author.Tests.{eq-eqb, ne_eqb, lt-ltb}
use Rattle.laws.specs.Choice.{choose}
use Rattle.laws.proofs.Places.{length-tab, get_or-tab}
use Rattle.card_slots.specs.Card.{slot, slots}
use Rattle.card_slots.specs.Slot as slot-fields
use Rattle.card_fields.specs.Fields.{Has, slot_at}
use Rattle.card_fields.specs.Kinds.{kind_text}
use Rattle.card_fields.specs.declared.Fields.{Fields}
use Rattle.wording.specs.Numbers.{decimal, in_tenths}
use Rattle.wording.specs.Filled.{stands_for, uses, filled}
use Rattle.card_table.specs.Written.{line_of, lines_of}

-- ---- one line
-- $,$, and the kind and ,~,~,$ and a line feed
abbrev parts : Fields → List ℕ
parts f =
    filled (36 ∷ 44 ∷ 36 ∷ 44 ∷ []) (f.recipe ∷ f.segment ∷ []) ++ kind_text f.kind
    ++ filled (44 ∷ 126 ∷ 44 ∷ 126 ∷ 44 ∷ 36 ∷ 10 ∷ []) (f.target ∷ f.rate ∷ f.hold ∷ [])

cons_append : (c : ℕ) (a b : List ℕ) → c ∷ a ++ b ≡ c ∷ (a ++ b)
cons_append c a b = refl

nil_append : (a : List ℕ) → [] ++ a ≡ a
nil_append a = refl

in_one : (a b k t r h : List ℕ)
    → (a ++ 44 ∷ (b ++ 44 ∷ [])) ++ k ++ 44 ∷ (t ++ 44 ∷ (r ++ 44 ∷ (h ++ 10 ∷ []))) ≡ a ++ 44 ∷ b ++ 44 ∷ k ++ 44 ∷ t ++ 44 ∷ r ++ 44 ∷ h ++ 10 ∷ []
in_one a b k t r h = simp (append_assoc, cons_append, nil_append)

parts_in_one : (f : Fields) → parts f
    ≡ decimal f.recipe ++ 44 ∷ decimal f.segment ++ 44 ∷ kind_text f.kind ++ 44 ∷ in_tenths f.target ++ 44 ∷ in_tenths f.rate
    ++ 44 ∷ decimal f.hold ++ 10 ∷ []
unfolding filled stands_for uses
parts_in_one f = in_one (decimal f.recipe) (decimal f.segment) (kind_text f.kind) (in_tenths f.target) (in_tenths f.rate) (decimal f.hold)

module _ (s : List ℕ) (f : Fields) (h : Has s f) where
  pub no_line : f.kind ≡ 0 → [] ≡ lines_of (s ∷ [])
  no_line e = rw (eq-eqb (slot-fields.kind s) 0 (h.kind ∙ e))

  pub whole_line : (f.kind ≡ 0 → ⊥) → parts f ≡ lines_of (s ∷ [])
  unfolding line_of
  whole_line n =
      rw (ne_eqb (slot-fields.kind s) 0 (λ e. n (sym h.kind ∙ e)), h.recipe, h.segment, h.kind, h.target, h.rate, h.hold)
      (parts_in_one f)

-- ---- the lines of the slots from number i on
one_more : (s : List ℕ) (ss : List (List ℕ)) → lines_of (s ∷ []) ++ lines_of ss ≡ lines_of (s ∷ ss)
one_more s ss = go (eqb (slot-fields.kind s) 0)
  where
    go : (b : Bool) → choose b [] (line_of s ++ 10 ∷ []) ++ lines_of ss ≡ choose b (lines_of ss) (line_of s ++ 10 ∷ lines_of ss)
    go true = refl
    go false = append_snoc (line_of s) 10 (lines_of ss)

module _ (card : List ℕ) (i : ℕ) where
  from_slot : i < length card / 16 → drop i (slots card) ≡ slot_at card i ∷ drop (suc i) (slots card)
  unfolding slots slot_at
  from_slot h =
      let n = length-tab (length card / 16) (slot card) in
      rw (lt-ltb i (length card / 16) h)
      (drop-cons (slots card) i [] (omega arith) ∙ ap (λ (s : List ℕ). s ∷ drop (suc i) (slots card)) (get_or-tab (length card / 16) (slot card) i [] h))

  pub next_line_of : i < length card / 16 → lines_of (slot_at card i ∷ []) ++ lines_of (drop (i + 1) (slots card)) ≡ lines_of (drop i (slots card))
  next_line_of h = rw (add-one i) (one_more (slot_at card i) (drop (suc i) (slots card)) ∙ ap lines_of (sym (from_slot h)))

  pub no_more_lines : length card / 16 ≤ i → lines_of (drop i (slots card)) ≡ []
  unfolding slots
  no_more_lines h =
      let n = length-tab (length card / 16) (slot card) in
      ap lines_of (drop_of_length-le (slots card) {i = i} (omega arith))
