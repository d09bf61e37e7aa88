-- `store`: the words put in one after the other.
use mathlib.Core.List.{List}
use mathlib.Core.Path.{ap, ◌∙◌}
use Prim.Native.Nat.{ℕ}
use Rattle.words.specs.Word.{with_word}
use Rattle.noekeon.proofs.store.Goals as goal

pub returns : goal.returns
returns c = let p = c.args.p in
    let put : ℕ → ℕ → List ℕ → List ℕ = λ n w l. with_word l n w in
    c.put-4.ensures
    ∙ ap (put 12 p.p3) (c.put-3.ensures ∙ ap (put 8 p.p2) (c.put-2.ensures ∙ ap (put 4 p.p1) c.put.ensures))
