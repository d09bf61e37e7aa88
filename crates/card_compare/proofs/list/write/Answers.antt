use mathlib.Core.Path.{refl, ap, ◌∙◌}
use mathlib.Core.List.{List, ◌++◌}
use Prim.Native.Nat.{ℕ, ◌+◌, ◌*◌}
use lib.ListN.{take, drop}
use Rattle.card_compare.proofs.Written.{written_on}
use Rattle.card_compare.proofs.list.write.Goals as goal

pub loop-i-preserved : goal.loop-i-preserved
loop-i-preserved c =
    let at = c.loop-i.i * 4 in
    written_on c.loop-i.invariant c.loop-i-test.true refl
    (c.store.ensures ∙ ap (λ (b : List ℕ). take at c.loop-i.out ++ b ++ drop (at + 4) c.loop-i.out) c.bytes.ensures)
