-- The loop that reads a text of 1 to 9 characters digit by digit.
use mathlib.Core.Path.{◌≡◌, sym, ap, ◌∙◌}
use mathlib.Core.Bool.{true, false}
use mathlib.Core.List.{List}
use Prim.Native.Nat.{ℕ, ◌+◌, ◌*◌, ◌-◌, ◌^◌, ◌≤◌, ◌<◌}
use native.Mathlib.Omega.{arith}
use native.Mathlib.Numerals.{add-one}
use lib.ListN.{length, get_or, drop, drop_of_length-le}
use lib.Seq.{drop-cons}
use Rattle.laws.specs.Choice.{choose}
use Rattle.spelling.specs.Number.{digit, digits, behind, number, whole}
use Rattle.std.proofs.Common.{Option, Some, None}
use Rattle.laws.proofs.Range.{inside}
use Rattle.spelling.proofs.Digits.{digit_read, digit_missing, next_small, nine_digits}

-- ---- the characters from a place on, after the digits of n
abbrev pub reading : ℕ → List ℕ → Option ℕ
reading n text = choose (digits text) (Some (behind n text)) None

module _ (l : List ℕ) (i n : ℕ) where
  stops : i < length l → digit (get_or l i 0) ≡ false → reading n (drop i l) ≡ None
  stops h e = rw (drop-cons l i 0, e)

  goes_on : i < length l → digit (get_or l i 0) ≡ true → reading n (drop i l) ≡ reading (n * 10 + (get_or l i 0 - 48)) (drop (i + 1) l)
  goes_on h e = rw (add-one, drop-cons l i 0, e)

  ends : length l ≤ i → reading n (drop i l) ≡ Some n
  ends h = rw drop_of_length-le

-- ---- i characters are read, and are digits
pub record Reading (text : List ℕ) (value i : ℕ) : Type 0 where
  pub few : length text ≤ 9
  pub small : value < 10 ^ i
  pub same : reading value (drop i text) ≡ whole text

pub reading_start : (text : List ℕ) → 1 ≤ length text → length text ≤ 9 → Reading text 0 0
unfolding whole number
reading_start text a b = record { few = b; small = omega arith; same = rw (inside 1 9 (length text) a b) }

module _ {text : List ℕ} {value i : ℕ} (r : Reading text value i) where
  pub reading_small : i < length text → value < 1000000000
  reading_small h = let l = r.few in nine_digits i value (omega arith) r.small

  pub reading_end : length text ≤ i → Some value ≡ whole text
  reading_end h = sym (ends text i value h) ∙ r.same

  module _ (h : i < length text) where
    pub reading_stop : None ≡ choose (digit (get_or text i 0)) (Some (get_or text i 0 - 48)) None → None ≡ whole text
    reading_stop e = sym (stops text i value h (digit_missing (get_or text i 0) e)) ∙ r.same

    pub reading_step : {d : ℕ} → Some d ≡ choose (digit (get_or text i 0)) (Some (get_or text i 0 - 48)) None → Reading text (value * 10 + d) (i + 1)
    reading_step e =
        let p = digit_read (get_or text i 0) e in
        record {
          few = r.few;
          small = rw (add-one, p.1) (next_small i value (get_or text i 0) r.small p.0);
          same = ap (λ (x : ℕ). reading (value * 10 + x) (drop (i + 1) text)) p.1 ∙ sym (goes_on text i value h p.0) ∙ r.same;
        }
