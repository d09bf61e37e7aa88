-- The outcome of a comparison, refused or not.
use mathlib.Core.Path.{◌≡◌, refl, sym, ap, ap₂, ◌∙◌}
use mathlib.Core.Bool.{Bool, true, false, not}
use mathlib.Core.List.{List, [], ◌∷◌, ◌++◌}
use Prim.Native.Nat.{ℕ, ◌*◌, ◌≤◌}
use native.Mathlib.Omega.{arith}
use lib.Dec.{eqb, ltb}
use lib.ListN.{length, take, drop}
use lib.Seq.{length-take-le}
use borrow.Author.Tests.{eqb-true, ltb-false, not-false}
use Rattle.laws.specs.Choice.{choose}
use Rattle.laws.specs.Bytes.{bytes_of}
use Rattle.laws.proofs.BigEndian.{length-bytes_of}
use Rattle.refusals.specs.Refusals as refusal
use Rattle.refusals.proofs.Clear.{Clear, compare_clear}
use Rattle.card_slots.specs.Card.{good}
use Rattle.card_compare.specs.Compare.{differences}
use Rattle.card_compare.specs.Promises.{compare_answer, compare_written, compare_out, Compares}

-- the cards are judged g and h, and the first n of `list` are the changes where both are good
module _ (a b out list : List ℕ) {g h : Bool} (eg : g ≡ good a) (eh : h ≡ good b) {n no : ℕ} (long : n ≤ length list)
    (el : g ≡ true → h ≡ true → bytes_of (take n list) ≡ differences a b) (en : no ≡ refusal.compare_order (not g) (not h) (ltb (length out) (n * 4))) where
  front_long : length (take n list) ≡ n
  front_long = length-take-le n list long

  bytes_long : g ≡ true → h ≡ true → n * 4 ≡ length (differences a b)
  bytes_long x y = ap (λ (m : ℕ). m * 4) (sym front_long) ∙ sym (length-bytes_of (take n list)) ∙ ap length (el x y)

  answered : no ≡ compare_answer a b out
  unfolding compare_answer
  answered =
      en ∙ by_good g refl h refl
      ∙ ap₂ (λ (x y : Bool). refusal.compare_order (not x) (not y) (ltb (length out) (length (differences a b)))) eg eh
    where
      by_good : (x : Bool) → g ≡ x → (y : Bool) → h ≡ y
          → refusal.compare_order (not g) (not h) (ltb (length out) (n * 4)) ≡ refusal.compare_order (not g) (not h) (ltb (length out) (length (differences a b)))
      by_good true x true y = ap (λ (m : ℕ). refusal.compare_order (not g) (not h) (ltb (length out) m)) (bytes_long x y)
      by_good true x false y = rw (x, y)
      by_good false x t y = rw x

  clear : no ≡ refusal.done → Clear (not g ∷ not h ∷ ltb (length out) (n * 4) ∷ [])
  clear z = compare_clear (not g) (not h) (ltb (length out) (n * 4)) (sym en ∙ z)

  -- m of the changes are written
  module _ {m : ℕ} (em : m ≡ choose (eqb no refusal.done) n 0) where
    pub fits : m * 4 ≤ length out
    fits = by_test (eqb no refusal.done) refl em
      where
        by_test : (t : Bool) → eqb no refusal.done ≡ t → m ≡ choose t n 0 → m * 4 ≤ length out
        by_test true e f = let l = ltb-false (length out) (n * 4) (clear (eqb-true no refusal.done e)).1.1.0 in omega arith
        by_test false e f = omega arith

    pub outcome : {out' : List ℕ} → out' ≡ bytes_of (take m list) ++ drop (length (take m list) * 4) out → Compares a b out no (m * 4) out'
    unfolding compare_written compare_out
    outcome {out'} e = by_test (eqb no refusal.done) refl em
      where
        by_test : (t : Bool) → eqb no refusal.done ≡ t → m ≡ choose t n 0 → Compares a b out no (m * 4) out'
        by_test true z f =
            let c = clear (eqb-true no refusal.done z) in
            let x = not-false g c.0 in
            let y = not-false h c.1.0 in
            record {
              answered = answered;
              reported = rw (← answered, z) (ap (λ (k : ℕ). k * 4) f ∙ bytes_long x y);
              left =
                  e ∙ ap (λ (k : ℕ). bytes_of (take k list) ++ drop (length (take k list) * 4) out) f
                  ∙ ap₂ (λ (l : List ℕ) (k : ℕ). l ++ drop k out) (el x y) (ap (λ (k : ℕ). k * 4) front_long ∙ bytes_long x y)
                  ∙ rw (← answered, z);
            }
        by_test false z f =
            record {
              answered = answered;
              reported = rw (← answered, z) (ap (λ (k : ℕ). k * 4) f);
              left = e ∙ ap (λ (k : ℕ). bytes_of (take k list) ++ drop (length (take k list) * 4) out) f ∙ rw (← answered, z);
            }
