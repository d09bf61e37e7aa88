-- The answers, one law for each outcome, in the order in which the code comes to it.
use mathlib.Core.Path.{◌≡◌, refl}
use mathlib.Core.Bool.{Bool, true, false, not, ◌&&◌, true≢false}
use mathlib.Core.List.{List, ◌++◌}
use Prim.Native.Nat.{ℕ, ◌≤◌}
use lib.Dec.{eqb, ltb}
use lib.ListN.{length, drop}
use borrow.Author.Tests.{eq-eqb, ne_eqb, not-false, eqb-true, ltb-false}
use Rattle.laws.specs.Choice.{choose}
use Rattle.runs.specs.Zeros.{zeros}
use Rattle.refusals.specs.Refusals as refusal
use Rattle.refusals.proofs.Clear.{set_up_clear, block_clear}
use Rattle.refusals.proofs.Behind.{set_up_looked}
use Rattle.cipher_numbers.specs.Ciphers.{number, is_cipher, is_length, padded}
use Rattle.cipher_numbers.specs.Blank.{blank}
use Rattle.cipher_numbers.proofs.Legal.{legal_cipher}
use Rattle.cipher.specs.Schedule.{schedule_of, bad, zero_schedule}
use Rattle.cipher.specs.Calls.{set_up_refusal, Usable, schedule, set_up_as, set_up, block_refusal, block_out}
use Rattle.cipher.specs.declared.Schedule.{Schedule}

-- ---- a schedule
module _ (s : Schedule) where
  pub bad_number : is_cipher s.cipher ≡ false → true ≡ bad s
  unfolding bad
  bad_number a = rw a

  pub bad_length : is_cipher s.cipher ≡ true → is_length s.cipher s.key_length ≡ false → true ≡ bad s
  unfolding bad
  bad_length a b = rw (a, b)

  pub bad_rest : is_cipher s.cipher ≡ true → is_length s.cipher s.key_length ≡ true → (z : Bool)
      → z ≡ zeros (drop ((number s.cipher).used s.key_length) s.round_keys) → not z ≡ bad s
  unfolding bad
  bad_rest a b z e = rw (a, b, e)

  pub good_length : bad s ≡ false → is_length s.cipher s.key_length ≡ true
  unfolding bad
  good_length = at_number (is_cipher s.cipher) (is_length s.cipher s.key_length)
    where
      rest : Bool
      rest = not (zeros (drop ((number s.cipher).used s.key_length) s.round_keys))

      at_number : (t u : Bool) → choose (not t) true (choose (not u) true rest) ≡ false → u ≡ true
      at_number true true e = refl
      at_number true false e = absurd (true≢false e)
      at_number false u e = absurd (true≢false e)

-- ---- set-up
module _ (n : ℕ) (key : List ℕ) where
  -- the bytes of a key are looked at only where its length is legal
  pub set_up_looked_at : refusal.set_up_order (not (is_cipher n)) (not (is_length n (length key))) (is_length n (length key) && blank key) ≡ set_up_refusal n key
  unfolding set_up_refusal
  set_up_looked_at = set_up_looked (not (is_cipher n)) (is_length n (length key)) (blank key)

  pub set_up_refused : (k : ℕ) → k ≡ set_up_refusal n key → (k ≡ refusal.done → ⊥) → set_up_as k zero_schedule ≡ set_up n key
  unfolding set_up
  set_up_refused k e z = rw (← e, ne_eqb _ _ z)

  -- the accepted keys are the usable ones
  pub accepted_key : set_up_refusal n key ≡ refusal.done → Usable n key
  unfolding set_up_refusal
  accepted_key e =
      let c = set_up_clear (not (is_cipher n)) (not (is_length n (length key))) (blank key) e in
      record { legal = not-false _ c.1.0; not_blank = c.1.1.0 }

  pub usable_accepted : Usable n key → set_up_refusal n key ≡ refusal.done
  unfolding set_up_refusal
  usable_accepted k = rw (legal_cipher n (length key) k.legal, k.legal, k.not_blank)

  -- a record of such fields is what set-up returns for a usable key
  pub set_up-done : set_up_refusal n key ≡ refusal.done → (keys : List ℕ) (c l : ℕ)
      → keys ≡ padded ((number n).round_keys key) → c ≡ n → l ≡ length key → set_up_as refusal.done (schedule_of keys c l) ≡ set_up n key
  unfolding set_up schedule
  set_up-done a keys c l e f g = rw (eq-eqb _ _ a, e, f, g)

-- ---- one block
module _ (s : Schedule) (n room : ℕ) where
  -- what an accepted block tells
  pub record AcceptedBlock : Type 0 where
    pub good : bad s ≡ false
    pub whole : n ≡ 16
    pub fits : 16 ≤ room

  pub accepted_block : block_refusal s n room ≡ refusal.done → AcceptedBlock
  unfolding block_refusal
  accepted_block e =
      let c = block_clear (bad s) (not (eqb n 16)) (ltb room 16) e in
      record { good = c.0; whole = eqb-true n 16 (not-false _ c.1.0); fits = ltb-false room 16 c.1.1.0 }

module _ (f : Schedule → List ℕ → List ℕ) (s : Schedule) (x o : List ℕ) where
  pub out_refused : (block_refusal s (length x) (length o) ≡ refusal.done → ⊥) → o ≡ block_out f s x o
  unfolding block_out
  out_refused z = rw (ne_eqb _ _ z)

  pub out_done : block_refusal s (length x) (length o) ≡ refusal.done → f s x ++ drop 16 o ≡ block_out f s x o
  unfolding block_out
  out_done e = rw (eq-eqb _ _ e)
