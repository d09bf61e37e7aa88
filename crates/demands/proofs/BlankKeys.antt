-- Blank keys: 02, request 7. Set-up refuses with 17 exactly the legal keys whose bytes are all equal, whichever byte it is; the entry refuses as set-up does, before
-- it looks at anything else; and a schedule record is as good with round keys that are all equal as with others.
use mathlib.Core.Path.{◌≡◌, refl, sym, ap, ◌∙◌}
use mathlib.Core.Bool.{Bool, true, false, not}
use mathlib.Core.List.{List}
use Prim.Native.Nat.{ℕ, ◌<◌}
use native.Mathlib.Omega.{arith}
use lib.Dec.{eqb, ltb}
use lib.ListN.{length, get_or, replicate, length-replicate}
use borrow.Author.Tests.{eqb-true, not-false}
use Rattle.laws.specs.Choice.{choose}
use Rattle.refusals.specs.Refusals as refusal
use Rattle.cipher_numbers.specs.Ciphers.{number, is_cipher, is_length, is_direction, padded}
use Rattle.cipher_numbers.specs.Blank.{blank}
use Rattle.cipher_numbers.proofs.Legal.{legal_cipher}
use Rattle.cipher_numbers.proofs.Repeated.{repeated_blank, two_differ}
use Rattle.cipher.specs.Schedule.{schedule_of, bad, zero_schedule}
use Rattle.cipher.specs.Calls.{set_up_refusal, schedule, set_up_as, set_up}
use Rattle.entry.specs.Entry.{entry_refusal, entry_out}
use Rattle.demands.proofs.Keys.{zeros_behind}
use Rattle.demands.proofs.WholeWay.{set_up_accepts}

-- ---- a legal key that is blank
module _ (n : ℕ) (key : List ℕ) (legal : is_length n (length key) ≡ true) (b : blank key ≡ true) where
  refused : set_up_refusal n key ≡ refusal.blank_key
  unfolding set_up_refusal
  refused = rw (legal_cipher n (length key) legal, legal, b)

  pub set_up_refuses : set_up n key ≡ set_up_as refusal.blank_key zero_schedule
  unfolding set_up
  set_up_refuses = rw refused

  -- in either direction or none, whatever the block and the room
  pub entry_refuses : (d : ℕ) (x o : List ℕ) → (entry_refusal n d key (length x) (length o) ≡ refusal.blank_key) × (entry_out n d key x o ≡ o)
  unfolding entry_out entry_refusal
  entry_refuses d x o = rw (legal_cipher n (length key) legal, legal, b) (refl, refl)

-- any byte, over and over
pub repeated_refused : (n len b : ℕ) → is_length n len ≡ true → set_up n (replicate len b) ≡ set_up_as refusal.blank_key zero_schedule
repeated_refused n len b legal =
    set_up_refuses n (replicate len b) (ap (is_length n) (length-replicate len b) ∙ legal) (repeated_blank len b)

-- two bytes that differ, anywhere
pub differing_accepted : (n : ℕ) (key : List ℕ) → is_length n (length key) ≡ true
    → (i j : ℕ) → i < length key → j < length key → (get_or key i 0 ≡ get_or key j 0 → ⊥) → (set_up n key).answer ≡ refusal.done
differing_accepted n key legal i j hi hj z = set_up_accepts n key (record { legal = legal; not_blank = two_differ key i j hi hj z })

-- ---- no other key
answer_is : (n : ℕ) (key : List ℕ) → (set_up n key).answer ≡ set_up_refusal n key
unfolding set_up
answer_is n key = go (eqb (set_up_refusal n key) refusal.done) refl
  where
    go : (t : Bool) → eqb (set_up_refusal n key) refusal.done ≡ t
        → (choose t (set_up_as refusal.done (schedule n key)) (set_up_as (set_up_refusal n key) zero_schedule)).answer ≡ set_up_refusal n key
    go true e = sym (eqb-true _ _ e)
    go false e = refl

by_17 : (c l b : Bool) → refusal.set_up_order c l b ≡ refusal.blank_key → (l ≡ false) × (b ≡ true)
by_17 true l b e = absurd (omega arith)
by_17 false true b e = absurd (omega arith)
by_17 false false true e = (refl, refl)
by_17 false false false e = absurd (omega arith)

pub only_blank : (n : ℕ) (key : List ℕ) → (set_up n key).answer ≡ refusal.blank_key → (is_length n (length key) ≡ true) × (blank key ≡ true)
unfolding set_up_refusal
only_blank n key e =
    let h = by_17 (not (is_cipher n)) (not (is_length n (length key))) (blank key) (sym (answer_is n key) ∙ e) in
    (not-false _ h.0, h.1)

-- ---- the entry refuses what set-up does, with its number
first_three : (c l k d b r : Bool) → (refusal.set_up_order c l k ≡ refusal.done → ⊥) → refusal.entry_order c l k d b r ≡ refusal.set_up_order c l k
first_three true l k d b r z = refl
first_three false true k d b r z = refl
first_three false false true d b r z = refl
first_three false false false d b r z = absurd (z refl)

pub entry_as_set_up : (n d : ℕ) (key : List ℕ) (m room : ℕ) → ((set_up n key).answer ≡ refusal.done → ⊥) → entry_refusal n d key m room ≡ (set_up n key).answer
unfolding entry_refusal set_up_refusal
entry_as_set_up n d key m room z =
    first_three
    (not (is_cipher n))
    (not (is_length n (length key)))
    (blank key)
    (not (is_direction d))
    (not (eqb m 16))
    (ltb room 16)
    (λ e. z (answer_is n key ∙ e))
    ∙ sym (answer_is n key)

-- ---- a schedule record isn't tested for them: all its used bytes may be one
pub equal_round_keys : (n len b : ℕ) → is_length n len ≡ true → bad (schedule_of (padded (replicate ((number n).used len) b)) n len) ≡ false
unfolding bad
equal_round_keys n len b legal =
    let used = (number n).used len in
    let l = length-replicate used b in
    rw (legal_cipher n len legal, legal, zeros_behind (replicate used b) used (omega arith))
