-- The kinds by name. Characters are ASCII numbers.
use Rattle.std.specs.Prelude.{List, [], ◌∷◌, ℕ, eqb}
use Rattle.laws.specs.Choice.{choose}

abbrev pub climb : List ℕ
climb = 99 ∷ 108 ∷ 105 ∷ 109 ∷ 98 ∷ []

abbrev pub hold : List ℕ
hold = 104 ∷ 111 ∷ 108 ∷ 100 ∷ []

abbrev pub drop : List ℕ
drop = 100 ∷ 114 ∷ 111 ∷ 112 ∷ []

unfoldable pub kind_text : ℕ → List ℕ
kind_text k = choose (eqb k 1) climb (choose (eqb k 2) hold drop)
