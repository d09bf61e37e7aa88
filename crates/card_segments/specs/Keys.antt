-- A key has its segment's recipe in its upper two bytes (docs/ARCHITECTURE.md has what makes keys: card_keys).
use Rattle.std.specs.Prelude.{Bool, not, ◌==◌, List, ℕ, ◌/◌, drop, take_while}
use Rattle.std.specs.List.{prefix_len}

abbrev pub is_of : ℕ → ℕ → Bool
is_of recipe key = key / 65536 == recipe

-- from the recipe's first key on, up to the next of another
abbrev pub keys_of : ℕ → List ℕ → List ℕ
keys_of recipe keys = take_while (is_of recipe) (drop (prefix_len (λ key. not (is_of recipe key)) keys) keys)
