-- Words with numbers among them. Characters are ASCII numbers: $ 36, ~ 126.
use Rattle.std.specs.Prelude.{◌||◌, List, [], ◌∷◌, ◌++◌, ℕ, ◌+◌, eqb, get_or}
use Rattle.laws.specs.Choice.{choose}
use Rattle.wording.specs.Numbers.{decimal, in_tenths}

-- what a character stands for where n is the next number: $ for n, ~ for n as tenths, any other for itself
unfoldable pub stands_for : (n c : ℕ) → List ℕ
stands_for n c = choose (eqb c 36) (decimal n) (choose (eqb c 126) (in_tenths n) (c ∷ []))

-- how many numbers it uses up
unfoldable pub uses : ℕ → ℕ
uses c = choose (eqb c 36 || eqb c 126) 1 0

-- words, with the numbers from number k on; behind the last one each is 0
abbrev pub filled_from : List ℕ → ℕ → List ℕ → List ℕ
filled_from numbers k [] = []
filled_from numbers k (c ∷ t) = stands_for (get_or numbers k 0) c ++ filled_from numbers (k + uses c) t

unfoldable pub filled : (text numbers : List ℕ) → List ℕ
filled text numbers = filled_from numbers 0 text
