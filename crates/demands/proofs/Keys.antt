-- The schedule that set-up makes of a legal key is good: its round keys are as many bytes as the cipher uses, and behind them stand zeros.
use mathlib.Core.Path.{◌≡◌, refl, ◌∙◌}
use mathlib.Core.Bool.{true, false}
use mathlib.Core.List.{List, [], ◌∷◌}
use Prim.Native.Nat.{ℕ, suc, ◌+◌, ◌*◌, ◌/◌, ◌%◌, ◌≤◌, ◌<◌}
use native.Mathlib.Omega.{arith}
use lib.ListN.{length, get_or, drop, length-drop, get_or-eq_default}
use lib.Seq.{get_or-drop}
use borrow.Author.Tests.{eq-eqb}
use Rattle.laws.proofs.Places.{length-tab, get_or-tab}
use Rattle.runs.specs.Zeros.{zeros}
use Rattle.hierocrypt3_steps.specs.Rounds.{T}
use Rattle.hierocrypt3_keys.specs.Keys.{K}
use Rattle.hierocrypt3_keys.specs.Keys as hierocrypt3-keys
use Rattle.e2_keys.specs.Keys.{subkey}
use Rattle.e2_keys.specs.Keys as e2-keys
use Rattle.cipher_numbers.specs.Ciphers.{number, is_length, member, padded}
use Rattle.cipher_numbers.proofs.Legal.{by_number, just_16, legal_cipher}
use Rattle.cipher.specs.Schedule.{bad}
use Rattle.cipher.specs.Calls.{schedule}

-- ---- zeros behind
-- a list whose every place holds 0 is zeros
zeros_all : (l : List ℕ) → ((j : ℕ) → j < length l → get_or l j 0 ≡ 0) → zeros l ≡ true
zeros_all [] h = refl
zeros_all (x ∷ l) h = rw (eq-eqb x 0 (h 0 (omega arith))) (zeros_all l (λ j k. h (suc j) (omega arith)))

pub zeros_behind : (keys : List ℕ) (u : ℕ) → length keys ≤ u → zeros (drop u (padded keys)) ≡ true
zeros_behind keys u h =
    zeros_all (drop u (padded keys))
    (λ j k.
    let e = length-drop u (padded keys) in
    let f = length-tab 288 (λ n. get_or keys n 0) in
    get_or-drop u (padded keys) j 0 ∙ get_or-tab 288 (λ n. get_or keys n 0) (u + j) 0 (omega arith) ∙ get_or-eq_default keys 0 (omega arith))

-- ---- as many bytes as are used
hierocrypt3_fit : (key : List ℕ) → length (hierocrypt3-keys.round_keys key) ≤ (T (length key) + 1) * 32
unfolding hierocrypt3-keys.round_keys
hierocrypt3_fit key = let l = length-tab ((T (length key) + 1) * 32) (λ j. get_or (K key (suc (j / 32))) (j % 32) 0) in omega arith

e2_fit : (key : List ℕ) → length (e2-keys.round_keys key) ≤ 256
unfolding e2-keys.round_keys
e2_fit key = let l = length-tab 256 (λ j. get_or (subkey key (suc (j / 16))) (j % 16) 0) in omega arith

keys_fit : (n : ℕ) (key : List ℕ) → is_length n (length key) ≡ true → length ((number n).round_keys key) ≤ (number n).used (length key)
unfolding is_length
keys_fit n key h =
    by_number (λ c. member (length key) c.lengths ≡ true → length (c.round_keys key) ≤ c.used (length key))
    (λ m. hierocrypt3_fit key) (λ m. e2_fit key) (λ b m. let e = just_16 (length key) m in omega arith) n (length key) h h

pub set_up_good : (n : ℕ) (key : List ℕ) → is_length n (length key) ≡ true → bad (schedule n key) ≡ false
unfolding bad schedule
set_up_good n key h =
    rw (legal_cipher n (length key) h, h, zeros_behind ((number n).round_keys key) ((number n).used (length key)) (keys_fit n key h))
