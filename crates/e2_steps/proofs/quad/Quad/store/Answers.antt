-- `Quad::store`: the words put in one after the other.
use mathlib.Core.List.{List}
use mathlib.Core.Path.{ap, ◌∙◌}
use Prim.Native.Nat.{ℕ}
use Rattle.words.specs.Word.{with_word}
use Rattle.e2_steps.proofs.quad.Quad.store.Goals as goal

pub returns : goal.returns
returns c = let w = c.args.self in
    let put : ℕ → ℕ → List ℕ → List ℕ = λ n x l. with_word l n x in
    c.put-4.ensures
    ∙ ap (put 12 w.d) (c.put-3.ensures ∙ ap (put 8 w.c) (c.put-2.ensures ∙ ap (put 4 w.b) c.put.ensures))
