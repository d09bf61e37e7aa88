-- The verdicts, one law for each outcome, in the order in which the code comes to it.
use mathlib.Core.Path.{◌≡◌}
use mathlib.Core.Bool.{true, false, ◌&&◌}
use mathlib.Core.List.{List}
use Prim.Native.Nat.{ℕ, ◌*◌, ◌%◌, ◌≤◌}
use lib.Dec.{eqb, leb}
use lib.ListN.{length}
use borrow.Author.Tests.{leb-true}
use Rattle.laws.proofs.Test.{and_left, and_right}
use Rattle.std.specs.Prelude.{None, Some}
use Rattle.cipher.specs.declared.Schedule.{Schedule}
use Rattle.sent_cards.specs.declared.Verdict.TheVariants.{Sealed, Length, Lengthened, Exchanged, OtherCipher, NotSealed}
use Rattle.sent_cards.specs.Sent.{is_length, sealed, sealed_front, sealed_by, explained, verdict}

pub length_within : (n : ℕ) → is_length n ≡ true → (32 ≤ n) × (n ≤ 4128)
unfolding is_length
length_within n e =
    let both = and_left (leb 32 n && leb n 4128) (eqb (n % 16) 0) e in
    (leb-true 32 n (and_left (leb 32 n) (leb n 4128) both), leb-true n 4128 (and_right (leb 32 n) (leb n 4128) both))

module _ (one two : Schedule) (key file : List ℕ) where
  -- ---- of a file that is not sealed under the second key
  pub is_lengthened : (blocks : ℕ) → Some blocks ≡ sealed_front two file → Lengthened (blocks * 16) ≡ explained one two key file
  unfolding explained
  is_lengthened blocks e = rw (← e)

  module _ (none : None ≡ sealed_front two file) where
    pub is_exchanged : sealed one file ≡ true → Exchanged ≡ explained one two key file
    unfolding explained
    is_exchanged x = rw (← none, x)

    module _ (x : sealed one file ≡ false) where
      pub is_other : (number : ℕ) → Some number ≡ sealed_by key file → OtherCipher number ≡ explained one two key file
      unfolding explained
      is_other number e = rw (← none, x, ← e)

      pub is_nothing : None ≡ sealed_by key file → NotSealed ≡ explained one two key file
      unfolding explained
      is_nothing e = rw (← none, x, ← e)

  -- ---- of any file
  pub is_no_length : is_length (length file) ≡ false → Length (length file) ≡ verdict one two key file
  unfolding verdict
  is_no_length e = rw e

  module _ (e : is_length (length file) ≡ true) where
    pub is_a_sent_card : sealed two file ≡ true → Sealed ≡ verdict one two key file
    unfolding verdict
    is_a_sent_card y = rw (e, y)

    pub is_explained : sealed two file ≡ false → explained one two key file ≡ verdict one two key file
    unfolding verdict
    is_explained y = rw (e, y)
