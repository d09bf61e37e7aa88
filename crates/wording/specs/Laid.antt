-- A text put at a place of a space. What has no room is left out.
use Rattle.std.specs.Prelude.{◌≡◌, List, ◌++◌, ℕ, ◌+◌, min, length, take, drop}

-- the space behind it: the text from the place on, and nothing else changed
unfoldable pub laid : List ℕ → ℕ → List ℕ → List ℕ
laid out at text = take (length out) (take at out ++ text ++ drop (at + length text) out)

-- the place behind it, or the end of the space
unfoldable pub behind : List ℕ → ℕ → List ℕ → ℕ
behind out at text = min (at + length text) (length out)

-- a text was put at a place, and the place behind it handed back
pub record Puts (text : List ℕ) (out : List ℕ) (at : ℕ) (exit : List ℕ) (r : ℕ) : Type 0 where
  pub leaves : exit ≡ laid out at text
  pub place : r ≡ behind out at text
