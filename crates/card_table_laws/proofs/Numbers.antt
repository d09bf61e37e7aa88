-- A number written is read as itself; and of what characters a number and a kind are written.
use mathlib.Core.Path.{◌≡◌, refl, sym, ap, ◌∙◌}
use mathlib.Core.Bool.{Bool, true, false}
use mathlib.Core.List.{List, [], ◌∷◌, ◌++◌}
use Prim.Native.Nat.{ℕ, zero, suc, ◌+◌, ◌*◌, ◌-◌, ◌/◌, ◌%◌, ◌^◌, ◌≤◌, ◌<◌}
use native.Mathlib.Omega.{arith}
use native.Mathlib.Nat.{pow-suc}
use lib.Dec.{eqb, ltb}
use lib.ListN.{length, get_or, take, length-append}
use lib.Seq.{take_at, get_or-append_seam, get_or-append-add}
use borrow.Author.Tests.{ltb-true, lt-ltb}
use Rattle.std.proofs.Common.{Some, None}
use Rattle.laws.specs.Choice.{choose}
use Rattle.laws.specs.Range.{within}
use Rattle.laws.proofs.Test.{and_left, and_right}
use Rattle.laws.proofs.Range.{inside, not_below, not_above}
use Rattle.card_slots.specs.Card.{every}
use Rattle.spelling.specs.Number.{digits, behind, value, number, whole, tenths}
use Rattle.spelling.specs.Number as read
use Rattle.spelling.proofs.Answers.{tenths_pointed}
use Rattle.wording.specs.Numbers.{digit, at_most, decimal, in_tenths}
use Rattle.card_fields.specs.Kinds.{climb, hold, drop, kind_text}
use Rattle.card_table_laws.specs.Texts.{Only, Digit, DigitOrPoint, Letter, PlainCharacter, Plain, NoBreak}

-- ---- of every character
pub only_append : (P : ℕ → Type 0) (s t : List ℕ) → Only P s → Only P t → Only P (s ++ t)
only_append P [] t a b = b
only_append P (c ∷ s) t a b = (a.0, only_append P s t a.1 b)

pub only_wider : {P Q : ℕ → Type 0} → ((c : ℕ) → P c → Q c) → (t : List ℕ) → Only P t → Only Q t
only_wider f [] a = tt
only_wider f (c ∷ t) a = (f c a.0, only_wider f t a.1)

pub digits_read : (t : List ℕ) → Only Digit t → digits t ≡ true
unfolding read.digit
digits_read [] a = refl
digits_read (c ∷ t) a = rw (inside 48 57 c a.0.0 a.0.1) (digits_read t a.1)

-- ---- the digits of a number
at_most_digits : (n x : ℕ) → Only Digit (at_most n x)
at_most_digits zero x = ((omega arith, omega arith), tt)
at_most_digits (suc n) x = go (ltb x 10) refl (at_most_digits n (x / 10))
  where
    go : (b : Bool) → ltb x 10 ≡ b → Only Digit (at_most n (x / 10)) → Only Digit (choose b (digit x ∷ []) (at_most n (x / 10) ++ digit (x % 10) ∷ []))
    go true e front = let h = ltb-true x 10 e in ((omega arith, omega arith), tt)
    go false e front = only_append Digit (at_most n (x / 10)) (digit (x % 10) ∷ []) front ((omega arith, omega arith), tt)

pub decimal_digits : (x : ℕ) → Only Digit (decimal x)
unfolding decimal
decimal_digits x = at_most_digits 19 x

-- ---- how many
at_most_some : (n x : ℕ) → 0 < length (at_most n x)
at_most_some zero x = omega arith
at_most_some (suc n) x = go (ltb x 10)
  where
    go : (b : Bool) → 0 < length (choose b (digit x ∷ []) (at_most n (x / 10) ++ digit (x % 10) ∷ []))
    go true = omega arith
    go false = let l = length-append (at_most n (x / 10)) (digit (x % 10) ∷ []) in omega arith

pub decimal_some : (x : ℕ) → 0 < length (decimal x)
unfolding decimal
decimal_some x = at_most_some 19 x

at_most_long : (n k x : ℕ) → x < 10 ^ suc k → length (at_most n x) ≤ suc k
at_most_long zero k x h = omega arith
at_most_long (suc n) zero x h = rw (lt-ltb x 10 (omega arith)) (omega arith)
at_most_long (suc n) (suc k) x h = let p = pow-suc 10 (suc k) in go (ltb x 10) (at_most_long n k (x / 10) (omega arith))
  where
    go : (b : Bool) → length (at_most n (x / 10)) ≤ suc k → length (choose b (digit x ∷ []) (at_most n (x / 10) ++ digit (x % 10) ∷ [])) ≤ suc (suc k)
    go true front = omega arith
    go false front = let l = length-append (at_most n (x / 10)) (digit (x % 10) ∷ []) in omega arith

-- ---- their value
behind-append : (n : ℕ) (t : List ℕ) (c : ℕ) → behind n (t ++ c ∷ []) ≡ behind n t * 10 + (c - 48)
behind-append n [] c = refl
behind-append n (d ∷ t) c = behind-append (n * 10 + (d - 48)) t c

at_most-value : (n x : ℕ) → x < 10 ^ suc n → value (at_most n x) ≡ x
at_most-value zero x h = omega arith
at_most-value (suc n) x h = let p = pow-suc 10 (suc n) in go (ltb x 10) (at_most-value n (x / 10) (omega arith))
  where
    go : (b : Bool) → value (at_most n (x / 10)) ≡ x / 10 → value (choose b (digit x ∷ []) (at_most n (x / 10) ++ digit (x % 10) ∷ [])) ≡ x
    go true front = omega arith
    go false front = let last = behind-append 0 (at_most n (x / 10)) (digit (x % 10)) in last ∙ omega arith

-- ---- a whole number
module _ (x : ℕ) (small : x < 1000000000) where
  decimal-number : number (decimal x) ≡ true
  unfolding number decimal
  decimal-number =
      rw (inside 1 9 (length (at_most 19 x)) (at_most_some 19 x) (at_most_long 19 8 x (omega arith)))
      (digits_read (at_most 19 x) (at_most_digits 19 x))

  pub whole-decimal : whole (decimal x) ≡ Some x
  unfolding whole decimal
  whole-decimal = rw decimal-number (ap Some (at_most-value 19 x (omega arith)))

-- ---- in tenths
one_digit : (x : ℕ) → x < 10 → decimal x ≡ digit x ∷ []
unfolding decimal
one_digit x h = rw (lt-ltb x 10 h)

in_tenths_is : (x : ℕ) → in_tenths x ≡ decimal (x / 10) ++ 46 ∷ digit (x % 10) ∷ []
unfolding in_tenths
in_tenths_is x = rw (one_digit (x % 10) (omega arith))

last_read : (d : ℕ) → d < 10 → Some d ≡ choose (read.digit (digit d)) (Some (digit d - 48)) None
unfolding read.digit
last_read d h = let n : d ≡ digit d - 48 = omega arith in rw (inside 48 57 (digit d) (omega arith) (omega arith)) (ap Some n)

module _ (x : ℕ) (small : x < 10000000000) where
  pub tenths-in_tenths : tenths (in_tenths x) ≡ Some x
  tenths-in_tenths =
      let front = decimal (x / 10) in
      let text = front ++ 46 ∷ digit (x % 10) ∷ [] in
      let long = length-append front (46 ∷ digit (x % 10) ∷ []) in
      let two : length text - 2 ≡ length front = omega arith in
      let one : length text - 1 ≡ length front + 1 = omega arith in
      let whole-front : Some (x / 10) ≡ whole (take (length text - 2) text)
      = sym (ap (λ (k : ℕ). whole (take k text)) two ∙ ap whole (take_at front (46 ∷ digit (x % 10) ∷ []) (length front) refl) ∙ whole-decimal (x / 10) (omega arith)) in
      let point : get_or text (length text - 2) 0 ≡ 46
      = ap (λ (k : ℕ). get_or text k 0) two ∙ get_or-append_seam front 46 (digit (x % 10) ∷ []) 0 in
      let last : get_or text (length text - 1) 0 ≡ digit (x % 10)
      = ap (λ (k : ℕ). get_or text k 0) one ∙ get_or-append-add front (46 ∷ digit (x % 10) ∷ []) 1 0 in
      let read-last : Some (x % 10) ≡ choose (read.digit (get_or text (length text - 1) 0)) (Some (get_or text (length text - 1) 0 - 48)) None
      = last_read (x % 10) (omega arith) ∙ ap (λ (c : ℕ). choose (read.digit c) (Some (c - 48)) None) (sym last) in
      let n : x / 10 * 10 + x % 10 ≡ x = omega arith in
      ap tenths (in_tenths_is x)
      ∙ sym (tenths_pointed text (omega arith) point whole-front read-last)
      ∙ ap Some n

pub in_tenths_characters : (x : ℕ) → Only DigitOrPoint (in_tenths x)
unfolding in_tenths
in_tenths_characters x =
    let wider : (c : ℕ) → Digit c → DigitOrPoint c = λ c d. (omega arith, omega arith, λ e. omega arith) in
    only_append DigitOrPoint (decimal (x / 10)) (46 ∷ decimal (x % 10)) (only_wider wider (decimal (x / 10)) (decimal_digits (x / 10)))
    ((omega arith, omega arith, λ e. omega arith), only_wider wider (decimal (x % 10)) (decimal_digits (x % 10)))

pub in_tenths_some : (x : ℕ) → 0 < length (in_tenths x)
unfolding in_tenths
in_tenths_some x = let l = length-append (decimal (x / 10)) (46 ∷ decimal (x % 10)) in omega arith

-- ---- a kind
letters : (t : List ℕ) → every (within 97 122) t ≡ true → Only Letter t
letters [] e = tt
letters (c ∷ t) e =
    let first = and_left (within 97 122 c) (every (within 97 122) t) e in
    ((not_below 97 122 c first, not_above 97 122 c first), letters t (and_right (within 97 122 c) (every (within 97 122) t) e))

pub kind_letters : (k : ℕ) → Only Letter (kind_text k)
unfolding kind_text
kind_letters k = go (eqb k 1) (eqb k 2)
  where
    go : (a b : Bool) → Only Letter (choose a climb (choose b hold drop))
    go true b = letters climb refl
    go false true = letters hold refl
    go false false = letters drop refl

pub kind_some : (k : ℕ) → 0 < length (kind_text k)
unfolding kind_text
kind_some k = go (eqb k 1) (eqb k 2)
  where
    go : (a b : Bool) → 0 < length (choose a climb (choose b hold drop))
    go true b = omega arith
    go false true = omega arith
    go false false = omega arith

-- ---- so each of these texts is plain, and has no line break in it: every character stands behind the comma
module _ (c : ℕ) (behind-comma : 44 < c) where
  plain_character : PlainCharacter c
  plain_character = record { no_comma = λ e. omega arith; no_quote = λ e. omega arith; no_space = λ e. omega arith; no_tab = λ e. omega arith }

  no_break : NoBreak c
  no_break = record { no_feed = λ e. omega arith; no_return = λ e. omega arith }

module _ (x : ℕ) where
  pub decimal_plain : Plain (decimal x)
  decimal_plain = record { some = decimal_some x; only = only_wider {P = Digit} (λ c d. plain_character c (omega arith)) (decimal x) (decimal_digits x) }

  pub in_tenths_plain : Plain (in_tenths x)
  in_tenths_plain = record {
    some = in_tenths_some x;
    only = only_wider {P = DigitOrPoint} (λ c d. plain_character c (omega arith)) (in_tenths x) (in_tenths_characters x);
  }

  pub kind_plain : Plain (kind_text x)
  kind_plain = record { some = kind_some x; only = only_wider {P = Letter} (λ c d. plain_character c (omega arith)) (kind_text x) (kind_letters x) }

  pub decimal_no_break : Only NoBreak (decimal x)
  decimal_no_break = only_wider {P = Digit} (λ c d. no_break c (omega arith)) (decimal x) (decimal_digits x)

  pub in_tenths_no_break : Only NoBreak (in_tenths x)
  in_tenths_no_break = only_wider {P = DigitOrPoint} (λ c d. no_break c (omega arith)) (in_tenths x) (in_tenths_characters x)

  pub kind_no_break : Only NoBreak (kind_text x)
  kind_no_break = only_wider {P = Letter} (λ c d. no_break c (omega arith)) (kind_text x) (kind_letters x)
