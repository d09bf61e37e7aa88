-- Slot order and empty slots don't count: a card rearranged gives the same list, as the first card and as the second.
use mathlib.Core.Path.{◌≡◌, sym, ap, ◌∙◌}
use mathlib.Core.List.{List, map}
use Prim.Native.Nat.{ℕ}
use lib.Dec.{ltb}
use Rattle.card_slots.specs.Card.{slots}
use Rattle.card_slots.specs.Find.{find_part}
use Rattle.card_compare.specs.Compare.{alike, mark, change_at, changes}
use Rattle.card_compare_laws.specs.Changes.{exchanged}
use Rattle.card_compare_laws.specs.Records.{has, holds, SameRecords, Rearranged}
use Rattle.card_compare_laws.proofs.AllPairs.{all_alike}
use Rattle.card_compare_laws.proofs.Counted.{some_many}
use Rattle.card_compare_laws.proofs.Exchanged.{changes-exchanged}
use Rattle.card_compare_laws.proofs.Records.{parts_found, same_parts}

module _ (a a' : List ℕ) (r : Rearranged a a') where
  holds_alike : (s : List ℕ) → holds a s ≡ holds a' s
  holds_alike s = some_many (has s) (slots a) ∙ ap (ltb 0) (r.as_often s) ∙ sym (some_many (has s) (slots a'))

  pub rearranged_same : SameRecords a a'
  rearranged_same = record { there = λ s e. sym (holds_alike s) ∙ e; back = λ s e. holds_alike s ∙ e }

  parts : (p : ℕ × ℕ) → find_part a p ≡ find_part a' p
  parts = same_parts a a' r.good_card r.good_other rearranged_same

  module _ (b : List ℕ) where
    pub rearranged_first : changes a b ≡ changes a' b
    unfolding changes change_at alike mark
    rearranged_first = all_alike (change_at a b) (change_at a' b) (λ p. rw (parts p, parts_found a a' p (parts p)))

    pub rearranged_second : changes b a ≡ changes b a'
    rearranged_second = changes-exchanged a b ∙ ap (map exchanged) rearranged_first ∙ sym (changes-exchanged a' b)
