-- Exchanging the cards exchanges the marks 1 and 2.
use mathlib.Core.Path.{◌≡◌, sym, ap, ◌∙◌}
use mathlib.Core.Logic.{inl, inr}
use mathlib.Core.List.{List, map}
use Prim.Native.Nat.{ℕ}
use Rattle.card_compare.specs.Compare.{change_at, changes}
use Rattle.card_compare.proofs.Marks.{change_same}
use Rattle.card_compare_laws.specs.Changes.{Changed, is_only_first, is_only_second, is_other_contents, exchanged}
use Rattle.card_compare_laws.proofs.AllPairs.{all_alike, all_map}
use Rattle.card_compare_laws.proofs.Exact.{Compared, compared, changed_at}

module _ (a b : List ℕ) where
  other_way : {p : ℕ × ℕ} {m : ℕ} → Changed a b p m → Changed b a p (exchanged (p, m)).1
  other_way (is_only_first u v) = is_only_second v u
  other_way (is_only_second u v) = is_only_first v u
  other_way (is_other_contents u v n) = is_other_contents v u (λ e. n (sym e))

  at_pair : (p : ℕ × ℕ) → Compared a b p → change_at b a p ≡ map exchanged (change_at a b p)
  at_pair p (inl e) = change_same b a p (sym e) ∙ sym (ap (map exchanged) (change_same a b p e))
  at_pair p (inr c) = changed_at (other_way c.1) ∙ sym (ap (map exchanged) (changed_at c.1))

  pub changes-exchanged : changes b a ≡ map exchanged (changes a b)
  unfolding changes
  changes-exchanged =
      all_alike (change_at b a) (λ p. map exchanged (change_at a b p)) (λ p. at_pair p (compared a b p)) ∙ all_map (change_at a b) exchanged
