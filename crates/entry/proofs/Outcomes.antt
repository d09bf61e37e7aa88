-- The entry's answers, one law for each outcome, in the order in which the code comes to it.
use mathlib.Core.Path.{◌≡◌}
use mathlib.Core.Bool.{true, not, ◌&&◌}
use mathlib.Core.List.{List, ◌++◌}
use Prim.Native.Nat.{ℕ, ◌≤◌}
use lib.Dec.{eqb, ltb}
use lib.ListN.{length, drop}
use borrow.Author.Tests.{eq-eqb, ne_eqb, not-false, eqb-true, ltb-false}
use Rattle.refusals.specs.Refusals as refusal
use Rattle.refusals.proofs.Clear.{entry_clear}
use Rattle.refusals.proofs.Behind.{entry_looked}
use Rattle.cipher_numbers.specs.Ciphers.{is_cipher, is_length, is_direction}
use Rattle.cipher_numbers.specs.Blank.{blank}
use Rattle.entry.specs.Entry.{entry_refusal, worked, entry_out}

module _ (c d : ℕ) (key : List ℕ) (n room : ℕ) where
  -- the bytes of a key are looked at only where its length is legal
  pub looked_at :
      refusal.entry_order
      (not (is_cipher c))
      (not (is_length c (length key)))
      (is_length c (length key) && blank key)
      (not (is_direction d))
      (not (eqb n 16))
      (ltb room 16)
      ≡ entry_refusal c d key n room
  unfolding entry_refusal
  looked_at = entry_looked (not (is_cipher c)) (is_length c (length key)) (blank key) (not (is_direction d)) (not (eqb n 16)) (ltb room 16)

  -- what an accepted call tells
  pub record AcceptedCall : Type 0 where
    pub legal : is_length c (length key) ≡ true
    pub whole : n ≡ 16
    pub fits : 16 ≤ room

  pub accepted_call : entry_refusal c d key n room ≡ refusal.done → AcceptedCall
  unfolding entry_refusal
  accepted_call e =
      let l = entry_clear (not (is_cipher c)) (not (is_length c (length key))) (blank key) (not (is_direction d)) (not (eqb n 16)) (ltb room 16) e in
      record { legal = not-false _ l.1.0; whole = eqb-true n 16 (not-false _ l.1.1.1.1.0); fits = ltb-false room 16 l.1.1.1.1.1.0 }

module _ (c d : ℕ) (key x o : List ℕ) where
  pub out_refused : (entry_refusal c d key (length x) (length o) ≡ refusal.done → ⊥) → o ≡ entry_out c d key x o
  unfolding entry_out
  out_refused z = rw (ne_eqb _ _ z)

  pub out_done : entry_refusal c d key (length x) (length o) ≡ refusal.done → worked c d key x ++ drop 16 o ≡ entry_out c d key x o
  unfolding entry_out
  out_done e = rw (eq-eqb _ _ e)
