-- One byte of a message that goes through a stream in pieces of one byte, in the code's turn: fed, or refused.
use mathlib.Core.Path.{◌≡◌, sym, ap, ap₂, ◌∙◌, subst}
use mathlib.Core.Bool.{Bool}
use mathlib.Core.List.{List, [], ◌∷◌}
use Prim.Native.Nat.{ℕ, ◌+◌, ◌-◌, ◌<◌}
use native.Mathlib.Omega.{arith}
use native.Mathlib.Numerals.{add-one}
use lib.Dec.{eqb}
use lib.ListN.{length, take, drop, get_or}
use lib.Seq.{drop-cons}
use borrow.Author.Tests.{eq-eqb, ne_eqb}
use Rattle.laws.specs.Choice.{choose}
use Rattle.refusals.specs.Refusals.{done}
use Rattle.stream.specs.Calls.{feed, feed_out}
use Rattle.stream.specs.Promises.{Feeds}
use Rattle.stream.specs.declared.Stream.{Stream}
use Rattle.stream.specs.Numbered.{Fed}
use Rattle.speed.specs.Works.{Result, by_bytes}

module _ (s : Stream) (l o : List ℕ) (i : ℕ) (h : i < length l) where
  abbrev b : List ℕ
  b = get_or l i 0 ∷ []

  rest : drop i l ≡ get_or l i 0 ∷ drop (i + 1) l
  rest = drop-cons l i 0 h ∙ ap (λ (n : ℕ). get_or l i 0 ∷ drop n l) (sym (add-one i))

  piece : take (i + 1 - i) (drop i l) ≡ b
  piece =
      let e : i + 1 - i ≡ 1 = omega arith in
      ap₂ (λ (n : ℕ) (m : List ℕ). take n m) e rest

  -- what goes on behind the byte, and what stops at it
  abbrev on : Result
  on = by_bytes (feed s b (length o)).next (drop (i + 1) l) (feed_out s b o)

  abbrev off : Result
  off = record { answer = (feed s b (length o)).answer; out = feed_out s b o }

  by_rest : (t : Bool) → eqb (feed s b (length o)).answer done ≡ t → choose t on off ≡ by_bytes s (drop i l) o
  by_rest t e = sym (ap (λ (m : List ℕ). by_bytes s m o) rest ∙ ap (λ (u : Bool). choose u on off) e)

  module _ (r : Fed) (o' : List ℕ) (f : Feeds s (take (i + 1 - i) (drop i l)) o r o') where
    fed : Feeds s b o r o'
    fed = subst (λ (p : List ℕ). Feeds s p o r o') piece f

    pub went_on : r.answer ≡ done → by_bytes r.next (drop (i + 1) l) o' ≡ by_bytes s (drop i l) o
    went_on z =
        ap₂ (λ (x : Fed) (q : List ℕ). by_bytes x.next (drop (i + 1) l) q) fed.returned fed.left
        ∙ by_rest _ (eq-eqb _ _ (sym (ap (λ (x : Fed). x.answer) fed.returned) ∙ z))

    pub stopped : (r.answer ≡ done → ⊥) → ◌≡◌ {A = Result} (record { answer = r.answer; out = o' }) (by_bytes s (drop i l) o)
    stopped z =
        (λ j. record { answer = (fed.returned j).answer; out = fed.left j })
        ∙ by_rest _ (ne_eqb _ _ (λ e. z (ap (λ (x : Fed). x.answer) fed.returned ∙ e)))
