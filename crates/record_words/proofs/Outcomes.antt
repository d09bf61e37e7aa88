-- What the text of a field is taken for: one law for each outcome, in the order in which the code comes to it.
use mathlib.Core.Path.{◌≡◌, refl, sym, ◌∙◌}
use mathlib.Core.Bool.{Bool, true, false, true≢false}
use mathlib.Core.List.{List}
use Prim.Native.Nat.{ℕ, ◌≤◌}
use lib.Dec.{leb}
use borrow.Author.Tests.{leb-true, leb-false}
use Rattle.spelling.specs.Number.{whole, tenths}
use Rattle.spelling.specs.Word.{spells}
use Rattle.std.proofs.Common.{Some, None}
use Rattle.card_rules.specs.declared.Field.{Field}
use Rattle.card_rules.specs.Rules.{may_be, in_tenths}
use Rattle.card_rules.proofs.LegalElse.{over_two_bytes}
use Rattle.card_fields.specs.Kinds.{climb, hold, drop}
use Rattle.record_words.specs.Record.{spelled_in, number_in, kind_of}

-- ---- a number
module _ (field : Field) (text : List ℕ) where
  pub in_tenths_lem : in_tenths field ≡ true → tenths text ≡ spelled_in field text
  unfolding spelled_in
  in_tenths_lem t = rw t

  pub in_whole : in_tenths field ≡ false → whole text ≡ spelled_in field text
  unfolding spelled_in
  in_whole t = rw t

  pub no_number : None ≡ spelled_in field text → None ≡ number_in field text
  unfolding number_in
  no_number e = rw (← e)

  module _ {n : ℕ} (e : Some n ≡ spelled_in field text) where
    pub may_not_be : may_be field n ≡ false → None ≡ number_in field text
    unfolding number_in
    may_not_be m = rw (← e, m)

    pub may_be_lem : may_be field n ≡ true → Some n ≡ number_in field text
    unfolding number_in
    may_be_lem m = rw (← e, m)

pub two_bytes : (field : Field) (n : ℕ) → may_be field n ≡ true → n ≤ 65535
two_bytes field n m = go (leb n 65535) (leb-true n 65535) (λ f. true≢false (sym m ∙ over_two_bytes field n (leb-false n 65535 f)))
  where
    go : (t : Bool) → (t ≡ true → n ≤ 65535) → (t ≡ false → ⊥) → n ≤ 65535
    go true a b = a refl
    go false a b = absurd (b refl)

-- ---- a kind
module _ (text : List ℕ) where
  pub is_climb : spells text climb ≡ true → Some 1 ≡ kind_of text
  unfolding kind_of
  is_climb a = rw a

  module _ (a : spells text climb ≡ false) where
    pub is_hold : spells text hold ≡ true → Some 2 ≡ kind_of text
    unfolding kind_of
    is_hold b = rw (a, b)

    module _ (b : spells text hold ≡ false) where
      pub is_drop : spells text drop ≡ true → Some 3 ≡ kind_of text
      unfolding kind_of
      is_drop d = rw (a, b, d)

      pub no_kind : spells text drop ≡ false → None ≡ kind_of text
      unfolding kind_of
      no_kind d = rw (a, b, d)
