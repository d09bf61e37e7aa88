-- The fronts of a file, one block after the other: the seal behind n blocks, and what is left to look at.
use mathlib.Core.Path.{◌≡◌, refl, sym, ap, ap₂, ◌∙◌}
use mathlib.Core.Bool.{Bool, true, false}
use mathlib.Core.List.{List, [], ◌++◌}
use Prim.Native.Nat.{ℕ, ◌+◌, ◌-◌, ◌*◌, ◌/◌, ◌≤◌, ◌<◌}
use native.Mathlib.Omega.{arith}
use lib.ListN.{length, take, drop}
use lib.Seq.{length-take-le, take-take, take-add, drop_at}
use Rattle.std.specs.Prelude.{None, Some}
use Rattle.laws.specs.Choice.{choose}
use Rattle.runs.specs.Same.{same}
use Rattle.cmac.specs.Cmac.{cmac}
use Rattle.pieces.specs.Pieces.{limit}
use Rattle.cipher.specs.Schedule.{bad, enciphered}
use Rattle.cipher.specs.declared.Schedule.{Schedule}
use Rattle.seal.specs.Calls.{feed, check}
use Rattle.seal.specs.Promises.{FeedsSeal, ChecksSeal}
use Rattle.seal.specs.declared.Seal.{Seal}
use Rattle.seal.specs.Numbered.{Fed}
use Rattle.seal.specs.Numbered.{Checked}
use Rattle.sent_cards.specs.Sent.{front, last_block, sealed, first, sealed_front}
use Rattle.sent_cards.proofs.Reached.{reached, feed-reached, check-reached}
use Rattle.sent_cards.proofs.First.{first_here, first_later, first_none}

-- ---- all but the last of k + 1 blocks, and the last
module _ (file : List ℕ) (k : ℕ) (h : (k + 1) * 16 ≤ length file) where
  but_last : length (take ((k + 1) * 16) file) - 16 ≡ k * 16
  but_last = let e = length-take-le ((k + 1) * 16) file h in omega arith

  front_of_front : front (take ((k + 1) * 16) file) ≡ take (k * 16) file
  front_of_front = ap (λ (n : ℕ). take n (take ((k + 1) * 16) file)) but_last ∙ take-take (k * 16) ((k + 1) * 16) file (omega arith)

  last_of_front : last_block (take ((k + 1) * 16) file) ≡ take 16 (drop (k * 16) file)
  last_of_front =
      let e : (k + 1) * 16 ≡ k * 16 + 16 = omega arith in
      ap (λ (n : ℕ). drop n (take ((k + 1) * 16) file)) but_last
      ∙ ap (λ (n : ℕ). drop (k * 16) (take n file)) e
      ∙ ap (drop (k * 16)) (take-add (k * 16) 16 file)
      ∙ drop_at (take (k * 16) file) (take 16 (drop (k * 16) file)) (k * 16) (length-take-le (k * 16) file (omega arith))

-- ---- the loop
module _ (s : Schedule) (file : List ℕ) where
  abbrev is_sealed : ℕ → Bool
  is_sealed n = sealed s (take (n * 16) file)

  -- n blocks are fed, and no front of up to n + 1 blocks is a sent card
  pub record Looked (seal : Seal) (n : ℕ) : Type 0 where
    pub state : seal ≡ reached s (take (n * 16) file)
    pub left : sealed_front s file ≡ first is_sealed (n + 2) (length file / 16 - (n + 2))

  pub looked_start : (seal : Seal) → seal ≡ reached s [] → Looked seal 0
  unfolding sealed_front
  looked_start seal e = record { state = e; left = refl }

  module _ (small : length file ≤ limit) (seal : Seal) (n : ℕ) (l : Looked seal n) where
    -- block n is fed, and the block after it is checked
    module _ (h : n + 2 < length file / 16) (fed : Fed) (f : FeedsSeal seal (take 16 (drop (n * 16) file)) fed) where
      next : fed.next ≡ reached s (take ((n + 1) * 16) file)
      next =
          let e : n * 16 + 16 ≡ (n + 1) * 16 = omega arith in
          let w = take-add (n * 16) 16 file in
          let m = length-take-le (n * 16 + 16) file (omega arith) in
          let a : length (take (n * 16) file ++ take 16 (drop (n * 16) file)) ≤ limit = rw (← w) (omega arith) in
          ap (λ (r : Fed). r.next) f.returned ∙ ap (λ (u : Seal). (feed u (take 16 (drop (n * 16) file))).next) l.state
          ∙ feed-reached s (take (n * 16) file) (take 16 (drop (n * 16) file)) a
          ∙ ap (reached s) (sym w) ∙ ap (λ (k : ℕ). reached s (take k file)) e

      module _ (checked : Checked) (k : ChecksSeal fed.next (take 16 (drop ((n + 1) * 16) file)) checked) where
        answer : checked.yes ≡ is_sealed (n + 2)
        unfolding sealed
        answer =
            let two : n + 2 ≡ n + 1 + 1 = omega arith in
            let m = length-take-le ((n + 1) * 16) file (omega arith) in
            let last = take 16 (drop ((n + 1) * 16) file) in
            ap (λ (r : Checked). r.yes) k.returned ∙ ap (λ (u : Seal). (check u last).yes) next
            ∙ check-reached s (take ((n + 1) * 16) file) last (omega arith)
            ∙ sym (ap₂ (λ (x a : List ℕ). choose (bad s) false (same x (cmac (enciphered s) a)))
            (last_of_front file (n + 1) (omega arith)) (front_of_front file (n + 1) (omega arith)))
            ∙ ap is_sealed (sym two)

        pub front_found : checked.yes ≡ true → Some (n + 2) ≡ sealed_front s file
        front_found y = first_here is_sealed (n + 2) (length file / 16) h (sym answer ∙ y) ∙ sym l.left

        pub looked_on : checked.yes ≡ false → Looked fed.next (n + 1)
        looked_on y =
            let e : n + 2 + 1 ≡ n + 1 + 2 = omega arith in
            record {
              state = next;
              left = l.left ∙ first_later is_sealed (n + 2) (length file / 16) h (sym answer ∙ y)
                  ∙ ap (λ (k : ℕ). first is_sealed k (length file / 16 - k)) e;
            }

    pub no_front : length file / 16 ≤ n + 2 → None ≡ sealed_front s file
    no_front h = first_none is_sealed (n + 2) (length file / 16) h ∙ sym l.left
