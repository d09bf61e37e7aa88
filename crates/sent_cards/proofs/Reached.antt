-- The seal that start and pieces lead to under any schedule: that of the bytes a, or where the schedule is bad the all-zero one, which says no to everything.
use mathlib.Core.Path.{◌≡◌, refl, ap, ap₂, ◌∙◌}
use mathlib.Core.Bool.{Bool, true, false}
use mathlib.Core.List.{List, [], ◌++◌}
use Prim.Native.Nat.{ℕ, ◌-◌, ◌≤◌}
use native.Mathlib.Omega.{arith}
use lib.Dec.{eqb}
use lib.ListN.{length, take, length-drop}
use lib.Seq.{length-take-le, take_all}
use Rattle.laws.specs.Choice.{choose}
use Rattle.runs.specs.Same.{same}
use Rattle.refusals.specs.Refusals as refusal
use Rattle.cmac.specs.Cmac.{earlier, cmac}
use Rattle.pieces.specs.Pieces.{limit}
use Rattle.cipher_numbers.specs.Ciphers.{is_cipher, number}
use Rattle.cipher.specs.Schedule.{bad, enciphered}
use Rattle.cipher.specs.declared.Schedule.{Schedule}
use Rattle.seal.specs.State.{fresh, bad_state, zero_seal}
use Rattle.seal.specs.Calls.{start_refusal, started_as, start, piece_refusal, feed, check_refusal, check}
use Rattle.seal.specs.Promises.{StartsSeal, FeedsSeal, ChecksSeal}
use Rattle.seal.specs.declared.Seal.{Seal}
use Rattle.seal.specs.Numbered.{Started, Fed, Checked, started_in_numbers, fed_in_numbers, checked_in_numbers}
use Rattle.seal.specs.declared.Started as code-started
use Rattle.seal.specs.declared.Fed as code-fed
use Rattle.seal.specs.declared.Checked as code-checked
use Rattle.seal_laws.proofs.AnyCut.{at, piece_at, check-at}
use Rattle.sent_cards.specs.Sent.{front, last_block, sealed}

abbrev pub reached : Schedule → List ℕ → Seal
reached s a = choose (bad s) zero_seal (at s false a)

-- ---- the all-zero seal
zero_bad : bad_state zero_seal ≡ true
unfolding bad_state bad is_cipher number
zero_bad = refl

zero_feed : (p : List ℕ) → (feed zero_seal p).next ≡ zero_seal
unfolding feed piece_refusal
zero_feed p = rw zero_bad

zero_check : (x : List ℕ) → (check zero_seal x).yes ≡ false
unfolding check check_refusal
zero_check x = rw zero_bad

-- ---- the calls
module _ (s : Schedule) where
  pub start-reached : (start s).seal ≡ reached s []
  unfolding start start_refusal earlier
  start-reached = go (bad s)
    where
      go : (t : Bool)
          → (choose (eqb (refusal.seal_start_order t) refusal.done) (started_as refusal.done (fresh s)) (started_as (refusal.seal_start_order t) zero_seal)).seal
          ≡ choose t zero_seal (at s false [])
      go true = refl
      go false = refl

  pub feed-reached : (a p : List ℕ) → length (a ++ p) ≤ limit → (feed (reached s a) p).next ≡ reached s (a ++ p)
  feed-reached a p l = go (bad s) refl
    where
      go : (t : Bool) → bad s ≡ t → (feed (choose t zero_seal (at s false a)) p).next ≡ choose t zero_seal (at s false (a ++ p))
      go true e = zero_feed p
      go false e = ap (λ (r : Fed). r.next) (piece_at s e a p l)

  pub check-reached : (a x : List ℕ) → length a ≤ limit → (check (reached s a) x).yes ≡ choose (bad s) false (same x (cmac (enciphered s) a))
  check-reached a x l = go (bad s) refl
    where
      go : (t : Bool) → bad s ≡ t → (check (choose t zero_seal (at s false a)) x).yes ≡ choose t false (same x (cmac (enciphered s) a))
      go true e = zero_check x
      go false e = ap (λ (r : Checked). r.yes) (check-at s e a x l)

  -- a file: all but its last block fed, and this checked
  module _ (file : List ℕ) (small : length file ≤ limit) (begun : code-started.Started) (fed : code-fed.Fed) (checked : code-checked.Checked) where
    pub sealed_by_calls : StartsSeal s (started_in_numbers begun) → FeedsSeal begun.seal (take (length file - 16 - 0) file) (fed_in_numbers fed)
        → ChecksSeal fed.next (take (length file - (length file - 16)) (last_block file)) (checked_in_numbers checked) → checked.yes ≡ sealed s file
    unfolding sealed
    sealed_by_calls b f k =
        let e = length-take-le (length file - 16) file (omega arith) in
        let n : length (front file) ≤ limit = omega arith in
        let d = length-drop (length file - 16) file in
        let w = take_all (length file - (length file - 16)) (last_block file) (omega arith) in
        let started : begun.seal ≡ reached s [] = ap (λ (r : Started). r.seal) b.returned ∙ start-reached in
        let z : length file - 16 - 0 ≡ length file - 16 = omega arith in
        let on : fed.next ≡ reached s (front file)
        = ap (λ (r : Fed). r.next) f.returned ∙ ap₂ (λ (u : Seal) (m : ℕ). (feed u (take m file)).next) started z ∙ feed-reached [] (front file) n in
        ap (λ (r : Checked). r.yes) k.returned
        ∙ ap₂ (λ (u : Seal) (x : List ℕ). (check u x).yes) on w
        ∙ check-reached (front file) (last_block file) n
