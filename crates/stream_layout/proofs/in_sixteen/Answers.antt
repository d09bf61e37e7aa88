use mathlib.Core.Path.{◌≡◌, ap, ◌∙◌}
use mathlib.Core.List.{List, [], ◌∷◌, ◌++◌}
use Prim.Native.Nat.{ℕ}
use borrow.Author.Rules.{rules}
use lib.ListN.{length}
use Rattle.laws.proofs.Places.{tab_self}
use Rattle.stream_layout.proofs.in_sixteen.Goals as goal

pub returns : goal.returns
returns c =
    let long : length c.args.fifteen ≡ 15 = search rules in
    c.store.ensures ∙ ap (λ (l : List ℕ). l ++ (0 ∷ [])) (tab_self 15 0 c.args.fifteen long)
