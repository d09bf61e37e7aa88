-- Digits: one as the code reads it, each of many, and how large a number they spell.
use mathlib.Core.Path.{◌≡◌, refl}
use mathlib.Core.Bool.{Bool, true, false}
use mathlib.Core.List.{List, [], ◌∷◌}
use Prim.Native.Nat.{ℕ, zero, suc, ◌+◌, ◌*◌, ◌-◌, ◌^◌, ◌≤◌, ◌<◌}
use native.Mathlib.Omega.{arith}
use native.Mathlib.Nat.{le_of_suc-le-suc, not-suc-le-zero, add-zero, zero-add, pow-suc, pow-le-pow_right}
use lib.ListN.{length, get_or}
use Rattle.std.proofs.Common.{Some, None}
use Rattle.std.proofs.lemmas.Option.{same_Some}
use Rattle.laws.specs.Choice.{choose}
use Rattle.laws.proofs.Test.{and_left, and_right}
use Rattle.spelling.specs.Number.{digit, digits, behind}
use Rattle.laws.proofs.Range.{not_above}

-- ---- one: its value, if it is one
digit_small : (c : ℕ) → digit c ≡ true → c - 48 ≤ 9
unfolding digit
digit_small c e = let h = not_above 48 57 c e in omega arith

module _ (c : ℕ) where
  pub digit_read : {d : ℕ} → Some d ≡ choose (digit c) (Some (c - 48)) None → (digit c ≡ true) × (d ≡ c - 48)
  digit_read {d} = go (digit c)
    where
      go : (t : Bool) → Some d ≡ choose t (Some (c - 48)) None → (t ≡ true) × (d ≡ c - 48)
      go true p = (refl, same_Some d (c - 48) p)
      go false p = cc

  pub digit_at_most : {d : ℕ} → Some d ≡ choose (digit c) (Some (c - 48)) None → d ≤ 9
  digit_at_most e = let r = digit_read e in let s = digit_small c r.0 in omega arith

  pub digit_missing : None ≡ choose (digit c) (Some (c - 48)) None → digit c ≡ false
  digit_missing = go (digit c)
    where
      go : (t : Bool) → None ≡ choose t (Some (c - 48)) None → t ≡ false
      go true p = cc
      go false p = refl

-- ---- each of many
pub digits_at : (l : List ℕ) (i : ℕ) → i < length l → digits l ≡ true → digit (get_or l i 0) ≡ true
digits_at [] i h e = absurd (not-suc-le-zero h)
digits_at (c ∷ l) zero h e = and_left (digit c) (digits l) e
digits_at (c ∷ l) (suc i) h e = digits_at l i (le_of_suc-le-suc h) (and_right (digit c) (digits l) e)

-- ---- k digits spell a number under 10 ^ k
pub next_small : (k n c : ℕ) → n < 10 ^ k → digit c ≡ true → n * 10 + (c - 48) < 10 ^ suc k
next_small k n c h e = let s = digit_small c e in let p = pow-suc 10 k in omega arith

behind_small : (k n : ℕ) (l : List ℕ) → n < 10 ^ k → digits l ≡ true → behind n l < 10 ^ (k + length l)
behind_small k n [] h e = rw add-zero h
behind_small k n (c ∷ l) h e =
    let s : suc k + length l ≡ k + suc (length l) = omega arith in
    rw s at (behind_small (suc k) (n * 10 + (c - 48)) l (next_small k n c h (and_left (digit c) (digits l) e)) (and_right (digit c) (digits l) e))

pub nine_digits : (k n : ℕ) → k ≤ 9 → n < 10 ^ k → n < 1000000000
nine_digits k n h a = let p : 10 ^ k ≤ 10 ^ 9 = pow-le-pow_right (omega arith) h in omega arith

pub digits_small : (l : List ℕ) → length l ≤ 9 → digits l ≡ true → behind 0 l < 1000000000
digits_small l h e = nine_digits (length l) (behind 0 l) h (rw zero-add at (behind_small 0 0 l (omega arith) e))
