-- One piece of those that go through a seal, in the code's turn: fed, or refused. And the seal written behind them.
use mathlib.Core.Path.{◌≡◌, sym, ap, ap₂, ◌∙◌}
use mathlib.Core.Bool.{Bool}
use mathlib.Core.List.{List, [], ◌∷◌}
use Prim.Native.Nat.{ℕ, ◌+◌, ◌-◌, ◌<◌}
use native.Mathlib.Omega.{arith}
use native.Mathlib.Numerals.{add-one}
use lib.Dec.{eqb}
use lib.ListN.{length, take, drop, get_or}
use lib.Seq.{drop-cons}
use borrow.Author.Tests.{eq-eqb, ne_eqb}
use Rattle.laws.specs.Choice.{choose}
use Rattle.refusals.specs.Refusals.{done}
use Rattle.seal.specs.Calls.{feed}
use Rattle.seal.specs.Promises.{FeedsSeal, WritesSeal}
use Rattle.seal.specs.declared.Seal.{Seal}
use Rattle.seal.specs.Numbered.{Fed}
use Rattle.seal.specs.Numbered.{Written}
use Rattle.seal_speed.specs.Works.{Result, in_pieces, ones}

pub written_behind : (s : Seal) (o : List ℕ) (r : Written) (o' : List ℕ) → WritesSeal s o r o'
    → ◌≡◌ {A = Result} (record { answer = r.answer; out = o' }) (in_pieces s [] o)
written_behind s o r o' h j = record { answer = (h.returned j).answer; out = h.left j }

module _ (s : Seal) (p : List ℕ) (ps : List (List ℕ)) (o : List ℕ) (r : Fed) (f : FeedsSeal s p r) where
  answer_is : r.answer ≡ (feed s p).answer
  answer_is = ap (λ (x : Fed). x.answer) f.returned

  by_answer : (t : Bool) → eqb (feed s p).answer done ≡ t
      → choose t (in_pieces (feed s p).next ps o) (record { answer = (feed s p).answer; out = o }) ≡ in_pieces s (p ∷ ps) o
  by_answer t e = sym (ap (λ (u : Bool). choose u (in_pieces (feed s p).next ps o) (record { answer = (feed s p).answer; out = o })) e)

  pub went_on : r.answer ≡ done → in_pieces r.next ps o ≡ in_pieces s (p ∷ ps) o
  went_on z = ap (λ (x : Fed). in_pieces x.next ps o) f.returned ∙ by_answer _ (eq-eqb _ _ (sym answer_is ∙ z))

  pub stopped : (r.answer ≡ done → ⊥) → ◌≡◌ {A = Result} (record { answer = r.answer; out = o }) (in_pieces s (p ∷ ps) o)
  stopped z = (λ j. record { answer = answer_is j; out = o }) ∙ by_answer _ (ne_eqb _ _ (λ e. z (answer_is ∙ e)))

-- byte i of a message, as the code takes it
module _ (l : List ℕ) (i : ℕ) (h : i < length l) where
  rest : drop i l ≡ get_or l i 0 ∷ drop (i + 1) l
  rest = drop-cons l i 0 h ∙ ap (λ (n : ℕ). get_or l i 0 ∷ drop n l) (sym (add-one i))

  pub ones_are : take (i + 1 - i) (drop i l) ∷ ones (drop (i + 1) l) ≡ ones (drop i l)
  ones_are =
      let e : i + 1 - i ≡ 1 = omega arith in
      ap (λ (p : List ℕ). p ∷ ones (drop (i + 1) l)) (ap₂ (λ (n : ℕ) (m : List ℕ). take n m) e rest) ∙ sym (ap ones rest)
